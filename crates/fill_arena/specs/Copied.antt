-- What is copied of an arena: the marked numbers, and the entries under new numbers.
use Rattle.std.specs.Prelude.{◌≡◌, ◌⊎◌, ℕ, ◌<◌, List, length, slice_set, Bool, true, Option, Some, None, slice_get}
use Rattle.std.specs.List.{AllZip}
use Rattle.fill_arena.specs.Contents.{In}
use Rattle.fill_arena.specs.Named.{IsNamed, Leads, Names}
use Rattle.fill_arena.specs.declared.entry.Entry.{Entry}
use Rattle.fill_arena.specs.declared.entry.Entry.TheVariants.{Places, Sources, Atoms, Graph}
use Rattle.fill_arena.specs.declared.entry.SourceItem.{SourceItem}
use Rattle.fill_arena.specs.declared.entry.SourceItem.TheVariants.{Col, Select}
use Rattle.fill_arena.specs.declared.entry.AtomItem.{AtomItem}
use Rattle.fill_arena.specs.declared.entry.AtomItem.TheVariants.{Const, Whole, Sub}
use Rattle.fill_arena.specs.declared.entry.ConditionItem.{ConditionItem}
use Rattle.fill_arena.specs.declared.entry.Edge.{Edge}

-- the number is marked
abbrev pub IsMarked : List Bool → ℕ → Type 0
IsMarked marks n = slice_get marks n ≡ Some true

-- the marks with one more
abbrev pub marked : List Bool → ℕ → List Bool
marked marks n = slice_set marks n true

-- each mark stays, and where the number is marked, what it names is marked too, and nothing else
pub record Spreads (c : List Entry) (m : ℕ) (old new : List Bool) : Type 0 where
  pub kept : (n : ℕ) → IsMarked old n → IsMarked new n
  pub named : (n : ℕ) → IsMarked old m → Names c m n → IsMarked new n
  pub only : (n : ℕ) → IsMarked new n → IsMarked old n ⊎ (IsMarked old m × Names c m n)

-- each mark stays; what a marked number names is marked; and a chain of names leads from an old mark to each
pub record IsClosure (c : List Entry) (old new : List Bool) : Type 0 where
  pub kept : (n : ℕ) → IsMarked old n → IsMarked new n
  pub closed : (m n : ℕ) → IsMarked new m → Names c m n → IsMarked new n
  pub led : (n : ℕ) → IsMarked new n → (m : ℕ) × (chain : List ℕ) × IsMarked old m × Leads c m chain n

-- exactly the listed numbers are marked, and what they name, directly or through others
pub record AreNamed (c : List Entry) (listed : List ℕ) (marks : List Bool) : Type 0 where
  pub long : length marks ≡ length c
  pub roots : (n : ℕ) → In n listed → IsMarked marks n
  pub closed : (m n : ℕ) → IsMarked marks m → Names c m n → IsMarked marks n
  pub named : (n : ℕ) → IsMarked marks n → IsNamed c listed n

-- the table has the new number for the old one, and some new number for it
abbrev pub Takes : List (Option ℕ) → ℕ → ℕ → Type 0
Takes table s n = slice_get table s ≡ Some (Some n)

abbrev pub HasNew : List (Option ℕ) → ℕ → Type 0
HasNew table s = (n : ℕ) × Takes table s n

-- the second is the first with other numbers, related to its own
abbrev pub OptionBecomes : (ℕ → ℕ → Type 0) → Option ℕ → Option ℕ → Type 0
OptionBecomes R None None = Unit {0}
OptionBecomes R None (Some n) = ⊥
OptionBecomes R (Some s) None = ⊥
OptionBecomes R (Some s) (Some n) = R s n

abbrev pub ConditionBecomes : (ℕ → ℕ → Type 0) → ConditionItem → ConditionItem → Type 0
ConditionBecomes R i j = (i.constant ≡ j.constant) × OptionBecomes R i.atoms j.atoms

abbrev pub SourceBecomes : (ℕ → ℕ → Type 0) → SourceItem → SourceItem → Type 0
SourceBecomes R (Col m) (Col n) = m ≡ n
SourceBecomes R (Col m) (Select j) = ⊥
SourceBecomes R (Select i) (Col n) = ⊥
SourceBecomes R (Select i) (Select j) =
    (i.column ≡ j.column) × (i.table ≡ j.table) × (i.key ≡ j.key) × AllZip (ConditionBecomes R) i.conditions j.conditions

abbrev pub AtomBecomes : (ℕ → ℕ → Type 0) → AtomItem → AtomItem → Type 0
AtomBecomes R (Const t) (Const u) = t ≡ u
AtomBecomes R (Const t) (Whole n) = ⊥
AtomBecomes R (Const t) (Sub n l r) = ⊥
AtomBecomes R (Whole s) (Const u) = ⊥
AtomBecomes R (Whole s) (Whole n) = R s n
AtomBecomes R (Whole s) (Sub n l r) = ⊥
AtomBecomes R (Sub s p q) (Const u) = ⊥
AtomBecomes R (Sub s p q) (Whole n) = ⊥
AtomBecomes R (Sub s p q) (Sub n l r) = R s n × R p l × R q r

abbrev pub EdgeBecomes : (ℕ → ℕ → Type 0) → Edge → Edge → Type 0
EdgeBecomes R e f = (e.from ≡ f.from) × (e.to ≡ f.to) × R e.atoms f.atoms

abbrev pub EntryBecomes : (ℕ → ℕ → Type 0) → Entry → Entry → Type 0
EntryBecomes R (Places places) (Places others) = places ≡ others
EntryBecomes R (Places places) (Sources others) = ⊥
EntryBecomes R (Places places) (Atoms others) = ⊥
EntryBecomes R (Places places) (Graph nodes edges) = ⊥
EntryBecomes R (Sources items) (Places others) = ⊥
EntryBecomes R (Sources items) (Sources others) = AllZip (SourceBecomes R) items others
EntryBecomes R (Sources items) (Atoms others) = ⊥
EntryBecomes R (Sources items) (Graph nodes edges) = ⊥
EntryBecomes R (Atoms items) (Places others) = ⊥
EntryBecomes R (Atoms items) (Sources others) = ⊥
EntryBecomes R (Atoms items) (Atoms others) = AllZip (AtomBecomes R) items others
EntryBecomes R (Atoms items) (Graph nodes edges) = ⊥
EntryBecomes R (Graph nodes edges) (Places others) = ⊥
EntryBecomes R (Graph nodes edges) (Sources others) = ⊥
EntryBecomes R (Graph nodes edges) (Atoms others) = ⊥
EntryBecomes R (Graph nodes edges) (Graph others ends) = (nodes ≡ others) × AllZip (EdgeBecomes R) edges ends

-- what stands under the first number in the first arena stands under the second in the second, with its numbers related
abbrev pub Becomes : List Entry → List Entry → (ℕ → ℕ → Type 0) → ℕ → ℕ → Type 0
Becomes c d R s n = (e : Entry) × (f : Entry) × (slice_get c s ≡ Some e) × (slice_get d n ≡ Some f) × EntryBecomes R e f

-- the first numbers of an arena are copied to another, those that are marked and no others
pub record AreCopied (c : List Entry) (marks : List Bool) (d : List Entry) (table : List (Option ℕ)) : Type 0 where
  pub right : (s n : ℕ) → Takes table s n → Becomes c d (Takes table) s n
  pub all : (s : ℕ) → s < length table → IsMarked marks s → HasNew table s
  pub only : (n : ℕ) → n < length d → (s : ℕ) × IsMarked marks s × Takes table s n
