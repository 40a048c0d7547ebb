-- Which places, sources, conditions, atoms and programs stand in the sets and graphs of an arena.
use Rattle.std.specs.Prelude.{◌≡◌, ℕ, ◌-◌, ◌<◌, ◌^◌, List, [], ◌∷◌, Some, slice_get}
use Rattle.fill_tokens.specs.declared.place.Place.{Place}
use Rattle.fill_tree.specs.Tree.{SourceTree, AtomTree, Atoms, col, select, constant, whole, sub, end, more}
use Rattle.fill_tokens.specs.declared.prices.Prices.{Prices}
use Rattle.fill_tree.specs.Cost.{program_cost}
use Rattle.fill_tree.specs.Grammar.{HasPart, IsPart}
use Rattle.fill_arena.specs.Contents.{In, SomeIn}
use Rattle.fill_arena.specs.declared.entry.Entry.{Entry}
use Rattle.fill_arena.specs.declared.entry.Entry.TheVariants as kind
use Rattle.fill_arena.specs.declared.entry.SourceItem.{SourceItem}
use Rattle.fill_arena.specs.declared.entry.SourceItem.TheVariants.{Col, Select}
use Rattle.fill_arena.specs.declared.entry.AtomItem.{AtomItem}
use Rattle.fill_arena.specs.declared.entry.AtomItem.TheVariants.{Const, Whole, Sub}
use Rattle.fill_arena.specs.declared.entry.ConditionItem.{ConditionItem}
use Rattle.fill_arena.specs.declared.entry.Edge.{Edge}

-- a place stands in a set that lists it
abbrev pub PlaceStands : List Entry → ℕ → Place → Type 0
PlaceStands c s p = (places : List Place) × (slice_get c s ≡ Some (kind.Places places)) × In p places

-- the set of sources, or of atoms, lists an item of the property
abbrev pub SomeSource : List Entry → ℕ → (SourceItem → Type 0) → Type 0
SomeSource c s P = (items : List SourceItem) × (slice_get c s ≡ Some (kind.Sources items)) × SomeIn P items

abbrev pub SomeAtom : List Entry → ℕ → (AtomItem → Type 0) → Type 0
SomeAtom c s P = (items : List AtomItem) × (slice_get c s ≡ Some (kind.Atoms items)) × SomeIn P items

-- an atom that is no constant stands in the item's set
abbrev pub IsPartOf : List Entry → ConditionItem → (AtomItem → Type 0) → Type 0
IsPartOf c i P = (s : ℕ) × (i.atoms ≡ Some s) × SomeAtom c s P

-- a condition stands in its item: as the item's constant, or as no constant in the item's atoms
abbrev pub ConditionFits : AtomTree → List Entry → ConditionItem → (AtomItem → Type 0) → Type 0
ConditionFits (constant t) c i P = i.constant ≡ Some t
ConditionFits (whole s) c i P = IsPartOf c i P
ConditionFits (sub s p q) c i P = IsPartOf c i P

abbrev mutual
  -- the atom is one that the item stands for
  pub AtomFits : AtomTree → List Entry → AtomItem → Type 0
  AtomFits (constant t) c (Const u) = u ≡ t
  AtomFits (constant t) c (Whole b) = ⊥
  AtomFits (constant t) c (Sub b ps qs) = ⊥
  AtomFits (whole s) c (Const u) = ⊥
  AtomFits (whole s) c (Whole b) = SomeSource c b (SourceFits s c)
  AtomFits (whole s) c (Sub b ps qs) = ⊥
  AtomFits (sub s p q) c (Const u) = ⊥
  AtomFits (sub s p q) c (Whole b) = ⊥
  AtomFits (sub s p q) c (Sub b ps qs) = SomeSource c b (SourceFits s c) × PlaceStands c ps p × PlaceStands c qs q

  -- the source is one that the item stands for
  pub SourceFits : SourceTree → List Entry → SourceItem → Type 0
  SourceFits (col n) c (Col m) = m ≡ n
  SourceFits (col n) c (Select i) = ⊥
  SourceFits (select column table key conditions) c (Col m) = ⊥
  SourceFits (select column table key conditions) c (Select i) =
      (i.column ≡ column) × (i.table ≡ table) × (i.key ≡ key) × HasPart conditions × ConditionsFit conditions c i.conditions

  -- each condition stands in its item
  pub ConditionsFit : Atoms → List Entry → List ConditionItem → Type 0
  ConditionsFit end c [] = Unit {0}
  ConditionsFit end c (i ∷ is) = ⊥
  ConditionsFit (more a rest) c [] = ⊥
  ConditionsFit (more a rest) c (i ∷ is) = ConditionFits a c i (AtomFits a c) × ConditionsFit rest c is

-- a source stands in a set of sources, and an atom in a set of atoms
abbrev pub SourceStands : List Entry → ℕ → SourceTree → Type 0
SourceStands c s x = SomeSource c s (SourceFits x c)

abbrev pub AtomStands : List Entry → ℕ → AtomTree → Type 0
AtomStands c s a = SomeAtom c s (AtomFits a c)

-- atoms that are no constants, and those that are
abbrev pub PartFits : List Entry → AtomItem → AtomTree → Type 0
PartFits c item a = IsPart a × AtomFits a c item

abbrev pub PartStands : List Entry → ℕ → AtomTree → Type 0
PartStands c s a = IsPart a × AtomStands c s a

abbrev pub ConstantFits : List Entry → AtomItem → AtomTree → Type 0
ConstantFits c item a = (¬ IsPart a) × AtomFits a c item

abbrev pub ConstantStands : List Entry → ℕ → AtomTree → Type 0
ConstantStands c s a = (¬ IsPart a) × AtomStands c s a

-- a walk over the edges, from a node to the last one, has the atoms in order in its edges' sets
abbrev pub Walks : Atoms → List Entry → List Edge → ℕ → ℕ → Type 0
Walks end c edges last at = at ≡ last
Walks (more a rest) c edges last at = SomeIn (λ e. (e.from ≡ at) × AtomStands c e.atoms a × Walks rest c edges last e.to) edges

-- what the atoms on a walk over the edges to the last node cost is one of the machine's numbers
abbrev pub WalksAreCheap : Prices → List Entry → List Edge → ℕ → Type 0
WalksAreCheap prices c edges last = (p : Atoms) (at : ℕ) → Walks p c edges last at → program_cost prices p < 2 ^ 64

-- a program stands in a graph where it is on a walk from node 0 to the last node
abbrev pub ProgramStands : List Entry → ℕ → Atoms → Type 0
ProgramStands c g p = (nodes : ℕ) × (edges : List Edge) × (slice_get c g ≡ Some (kind.Graph nodes edges)) × Walks p c edges (nodes - 1) 0
