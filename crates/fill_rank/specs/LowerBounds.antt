-- What the members of sets cost at least.
use Rattle.std.specs.Prelude.{◌≡◌, ℕ, ◌+◌, ◌<◌, ◌≤◌, List, Option, Some, None}
use Rattle.fill_tokens.specs.Prices.{place_cost}
use Rattle.fill_tokens.specs.declared.prices.Prices.{Prices}
use Rattle.fill_tree.specs.Cost.{atom_cost}
use Rattle.fill_tree.specs.Meaning.{atom_tree}
use Rattle.fill_tree.specs.declared.chain.Chain.{Chain}
use Rattle.fill_tree.specs.declared.tree.Atom.{Atom}
use Rattle.fill_arena.specs.Contents.{EachIn}
use Rattle.fill_arena.specs.Stands.{PlaceStands}
use Rattle.fill_arena.specs.declared.entry.Entry.{Entry}
use Rattle.fill_rank.specs.declared.bounds.Bound.{Bound}
use Rattle.fill_rank.specs.declared.bounds.Bounds.{Bounds}

-- all that has the property costs at least so much
abbrev pub IsLowerBound : {A : Type 0} → (A → ℕ) → (A → Type 0) → ℕ → Type 0
IsLowerBound cost P n = (x : _) → P x → n ≤ cost x

-- the slot is empty, or holds a lower bound of what its set's places cost
abbrev pub IsPlaceBound : Prices → List Entry → Option Bound → Type 0
IsPlaceBound prices c None = Unit {0}
IsPlaceBound prices c (Some b) = IsLowerBound (place_cost prices) (PlaceStands c b.set) b.cost

abbrev pub AreBounds : Prices → List Entry → Bounds → Type 0
AreBounds prices c bounds = EachIn (IsPlaceBound prices c) bounds.slots.items

-- a best is there, and costs less than what costs at least the bound
abbrev pub IsBelow : Prices → Option Atom → ℕ → Type 0
IsBelow prices best bound = (b : Atom) × (best ≡ Some b) × (atom_cost prices (atom_tree b) < bound)

-- the best and a rest are there, and the best costs less than any atom that costs at least the bound before the rest
abbrev pub IsBeaten : Prices → Option Chain → ℕ → Option Chain → Type 0
IsBeaten prices best bound rest = (b : Chain) × (x : Chain) × (best ≡ Some b) × (rest ≡ Some x) × (b.cost < prices.atom + bound + x.cost)
