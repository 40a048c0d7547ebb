-- Ends of programs with what they cost, of which the least is looked for.
use Rattle.std.specs.Prelude.{◌≡◌, ◌⊎◌, ℕ, ◌+◌, ◌<◌, ◌≤◌, ◌^◌}
use Rattle.std.specs.declared.cmp.Ordering.TheVariants.{Less}
use Rattle.fill_tokens.specs.declared.prices.Prices.{Prices}
use Rattle.fill_tree.specs.Cost.{program_cost}
use Rattle.fill_tree.specs.Meaning.{program_tree}
use Rattle.fill_tree.specs.Order.{chain_rank, program_cmp}
use Rattle.fill_tree.specs.Tree.{AtomTree, Atoms, more}
use Rattle.fill_arena.specs.Best.{IsBest}
use Rattle.fill_object.specs.declared.chain.Least.{Least}
use Rattle.fill_object.specs.declared.chain.Least.TheVariants.{Absent, Dearer, Found}

abbrev pub IsFound : Least → Type 0
IsFound Absent = ⊥
IsFound Dearer = ⊥
IsFound (Found x) = Unit {0}

-- the first is a copy of the second
abbrev pub IsCopy : Least → Least → Type 0
IsCopy Absent Absent = Unit {0}
IsCopy Absent Dearer = ⊥
IsCopy Absent (Found y) = ⊥
IsCopy Dearer Absent = ⊥
IsCopy Dearer Dearer = Unit {0}
IsCopy Dearer (Found y) = ⊥
IsCopy (Found x) Absent = ⊥
IsCopy (Found x) Dearer = ⊥
IsCopy (Found x) (Found y) = x.value ≡ y.value

-- what was found of rests, after one more atom, which costs so much in a program
abbrev pub IsLed : AtomTree → ℕ → Least → Least → Type 0
IsLed a own Absent r = r ≡ Absent
IsLed a own Dearer r = r ≡ Dearer
IsLed a own (Found x) Absent = ⊥
IsLed a own (Found x) Dearer = ⊥
IsLed a own (Found x) (Found y) =
    (program_tree y.value.atoms ≡ more a (program_tree x.value.atoms)) × (own + x.value.cost < 2 ^ 64 → y.value.cost ≡ own + x.value.cost)

-- what is dearer than the least so far is not wanted
abbrev pub limit_of : Least → ℕ → ℕ
limit_of Absent limit = limit
limit_of Dearer limit = limit
limit_of (Found x) limit = x.value.cost

-- the same within the limit
abbrev pub IsNoDearer : Least → ℕ → Least → Type 0
IsNoDearer Absent limit r = r ≡ Absent
IsNoDearer Dearer limit r = r ≡ Dearer
IsNoDearer (Found x) limit r = ((r ≡ Found x) × (x.value.cost ≤ limit)) ⊎ ((r ≡ Dearer) × (limit < x.value.cost))

-- the least of both
abbrev pub IsLesser : Least → Least → Least → Type 0
IsLesser Absent b r = r ≡ b
IsLesser Dearer Absent r = r ≡ Dearer
IsLesser Dearer Dearer r = r ≡ Dearer
IsLesser Dearer (Found y) r = r ≡ Found y
IsLesser (Found x) Absent r = r ≡ Found x
IsLesser (Found x) Dearer r = r ≡ Found x
IsLesser (Found x) (Found y) r = ((r ≡ Found y) × (chain_rank y.value x.value ≡ Less)) ⊎ ((r ≡ Found x) × ¬ (chain_rank y.value x.value ≡ Less))

-- there is something of the first property without the second, and all of it costs more than the limit
abbrev pub AreDearer : Prices → ℕ → (Atoms → Type 0) → (Atoms → Type 0) → Type 0
AreDearer prices limit W A = ((q : Atoms) × W q × ¬ (A q)) × ((p : Atoms) → W p → ¬ (A p) → limit < program_cost prices p)

-- of what has the first property and not the second the least one, if it costs no more than the limit
abbrev pub IsLeastWithin : Prices → ℕ → (Atoms → Type 0) → (Atoms → Type 0) → Least → Type 0
IsLeastWithin prices limit W A Absent = (p : Atoms) → W p → program_cost prices p ≤ limit → A p
IsLeastWithin prices limit W A Dearer = AreDearer prices limit W A
IsLeastWithin prices limit W A (Found x) =
    (x.value.cost ≡ program_cost prices (program_tree x.value.atoms)) × (x.value.cost ≤ limit) × IsBest (program_cmp prices) (λ p. W p × ¬ (A p)) (program_tree x.value.atoms)
