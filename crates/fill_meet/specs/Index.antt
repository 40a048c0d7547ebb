-- The items of a graph's sets, by what they may have in common with others.
use Rattle.std.specs.Prelude.{◌≡◌, ◌⊎◌, ℕ, ◌%◌, ◌<◌, List, length, Some, slice_get}
use Rattle.fill_arena.specs.Contents.{EachIn, IsAtomSet, IsPlaceSet, SomeIn}
use Rattle.fill_arena.specs.Hash.{mixed}
use Rattle.fill_arena.specs.declared.entry.AtomItem.{AtomItem}
use Rattle.fill_arena.specs.declared.entry.AtomItem.TheVariants.{Const, Whole, Sub}
use Rattle.fill_arena.specs.declared.entry.Edge.{Edge}
use Rattle.fill_arena.specs.declared.entry.Entry.{Entry}
use Rattle.fill_arena.specs.declared.entry.Entry.TheVariants as kind
use Rattle.fill_meet.specs.Groups.{AreGroups, AreGroupsOf}
use Rattle.fill_meet.specs.Labels.{AreLabels}
use Rattle.fill_meet.specs.Mates.{AreHeld}
use Rattle.fill_meet.specs.declared.index.Index.{Index}
use Rattle.fill_meet.specs.declared.index.Item.{Item}

-- the hash of constants of a length, and of pieces between places of the sets of these numbers
abbrev pub constant_hash : ℕ → ℕ
constant_hash n = mixed n 1

abbrev pub piece_hash : ℕ → ℕ → ℕ
piece_hash l r = mixed (mixed l 2) r

-- the hash of the item, by the numbers of its sets of places
abbrev pub IsHash : List ℕ → AtomItem → ℕ → Type 0
IsHash sets (Const t) h = h ≡ constant_hash (length t)
IsHash sets (Whole b) h = h ≡ 0
IsHash sets (Sub b p q) h = (l r : ℕ) × (slice_get sets l ≡ Some p) × (slice_get sets r ≡ Some q) × (h ≡ piece_hash l r)

-- item y stands at place j of the set of the number
abbrev pub IsListed : List Entry → List ℕ → ℕ → ℕ → AtomItem → Type 0
IsListed c labels n j y = (s : ℕ) × (items : List AtomItem) × (slice_get labels n ≡ Some s) × (slice_get c s ≡ Some (kind.Atoms items)) × (slice_get items j ≡ Some y)

-- the entry of that item
abbrev pub IsEntryOf : List ℕ → ℕ → ℕ → AtomItem → Item → Type 0
IsEntryOf sets n j y x = (x.set ≡ n) × (x.place ≡ j) × IsHash sets y x.hash

-- an entry of each item of each set, and no others
pub record AreItems (c : List Entry) (labels sets : List ℕ) (items : List Item) : Type 0 where
  pub real : EachIn (λ x. (y : AtomItem) × IsListed c labels x.set x.place y) items
  pub each : (n j : ℕ) (y : AtomItem) → IsListed c labels n j y → SomeIn (IsEntryOf sets n j y) items

-- a graph's edges by their labels, and the items of its sets by their hashes
pub record IsIndex (c : List Entry) (edges : List Edge) (i : Index) : Type 0 where
  pub atom_sets : EachIn (λ e. IsAtomSet c e.atoms) edges
  pub labels : AreLabels edges i.labels
  pub by_label : AreGroups i.labels.of.items i.by_label
  pub items : AreItems c i.labels.sets.items i.places.sets.items i.items.items
  pub some : 0 < length i.groups.firsts.items
  pub groups : AreGroupsOf (λ x. x.hash % length i.groups.firsts.items) i.items.items i.groups
  pub sets : EachIn (IsPlaceSet c) i.places.sets.items
  pub held : AreHeld c i.places.sets.items i.holders

abbrev pub IsSomeIndex : List Entry → Index → Type 0
IsSomeIndex c i = (edges : List Edge) × IsIndex c edges i

-- the entries of the items before place j of the set of the number n, and of all sets before that
pub record ItemsSoFar (c : List Entry) (labels : List ℕ) (n j : ℕ) (items : List Item) (places : List ℕ) : Type 0 where
  pub real : EachIn (λ x. (y : AtomItem) × IsListed c labels x.set x.place y) items
  pub each : (m k : ℕ) (y : AtomItem) → (m < n) ⊎ ((m ≡ n) × (k < j)) → IsListed c labels m k y → SomeIn (IsEntryOf places m k y) items
  pub sets : EachIn (IsPlaceSet c) places
