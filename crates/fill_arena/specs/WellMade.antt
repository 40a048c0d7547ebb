-- What is true of each set and graph of an arena.
use Rattle.std.specs.Prelude.{◌≡◌, ◌≢◌, ℕ, ◌-◌, ◌<◌, ◌≤◌, List, [], ◌∷◌, length, Some, IfSome, FitsSigned, slice_get}
use Rattle.std.specs.Int.{w32}
use Rattle.std.specs.List.{AllPairs}
use Rattle.std.specs.declared.cmp.Ordering.TheVariants.{Less}
use Rattle.fill_tokens.specs.Place.{place_cmp}
use Rattle.fill_tokens.specs.declared.place.Place.{Place}
use Rattle.fill_tokens.specs.declared.place.Place.TheVariants.{CPos, Pos}
use Rattle.fill_tree.specs.Tree.{SourceTree}
use Rattle.fill_tree.specs.Grammar.{source_depth}
use Rattle.fill_arena.specs.Contents.{In, EachIn, IsPlaceSet, IsSourceSet, IsAtomSet}
use Rattle.fill_arena.specs.Order.{IsTopological}
use Rattle.fill_arena.specs.Stands.{SourceFits}
use Rattle.fill_tree.specs.declared.user.TheConstants.{MOST_CHARACTERS}
use Rattle.fill_arena.specs.declared.entry.Entry.{Entry}
use Rattle.fill_arena.specs.declared.entry.Entry.TheVariants.{Places, Sources, Atoms, Graph}
use Rattle.fill_arena.specs.declared.entry.SourceItem.{SourceItem}
use Rattle.fill_arena.specs.declared.entry.SourceItem.TheVariants.{Col, Select}
use Rattle.fill_arena.specs.declared.entry.SelectItem.{SelectItem}
use Rattle.fill_arena.specs.declared.entry.AtomItem.{AtomItem}
use Rattle.fill_arena.specs.declared.entry.AtomItem.TheVariants.{Const, Whole, Sub}
use Rattle.fill_arena.specs.declared.entry.ConditionItem.{ConditionItem}
use Rattle.fill_arena.specs.declared.entry.Edge.{Edge}

-- a set of the kind, older than the number n
abbrev pub OlderPlaces : List Entry → ℕ → ℕ → Type 0
OlderPlaces c n s = IsPlaceSet c s × (s < n)

abbrev pub OlderSources : List Entry → ℕ → ℕ → Type 0
OlderSources c n s = IsSourceSet c s × (s < n)

abbrev pub OlderAtoms : List Entry → ℕ → ℕ → Type 0
OlderAtoms c n s = IsAtomSet c s × (s < n)

-- at least one place, in order, each once
pub record AreInOrder (places : List Place) : Type 0 where
  pub some : 0 < length places
  pub rising : AllPairs (λ p q. place_cmp p q ≡ Less) places

-- what the types of a place's parts can hold: a number of 32 bits with a sign, and sequences of at most three tokens
abbrev pub IsSized : Place → Type 0
IsSized (CPos k) = FitsSigned w32 k
IsSized (Pos r s c) = FitsSigned w32 c × (length r ≤ 3) × (length s ≤ 3)

-- such places, at least one, in order, each once
pub record ArePlaces (places : List Place) : Type 0 where
  pub some : 0 < length places
  pub rising : AllPairs (λ p q. place_cmp p q ≡ Less) places
  pub sized : EachIn IsSized places

abbrev pub IsConditionItem : List Entry → ℕ → ConditionItem → Type 0
IsConditionItem c n i = IfSome i.atoms (OlderAtoms c n)

-- one to three conditions of older sets; some lookup stands in the item, and none with more than three inside each other
pub record IsSelectItem (c : List Entry) (n : ℕ) (i : SelectItem) : Type 0 where
  pub some : 1 ≤ length i.conditions
  pub few : length i.conditions ≤ 3
  pub older : EachIn (IsConditionItem c n) i.conditions
  pub filled : (s : SourceTree) × SourceFits s c (Select i)
  pub shallow : (s : SourceTree) → SourceFits s c (Select i) → source_depth s ≤ 3

abbrev pub IsSourceItem : List Entry → ℕ → SourceItem → Type 0
IsSourceItem c n (Col m) = Unit {0}
IsSourceItem c n (Select i) = IsSelectItem c n i

-- sources of older sets, at least one item
pub record AreSources (c : List Entry) (n : ℕ) (items : List SourceItem) : Type 0 where
  pub some : 0 < length items
  pub each : EachIn (IsSourceItem c n) items

-- a constant that is no longer than an example's text may be, or sources and places of older sets
abbrev pub IsAtomItem : List Entry → ℕ → AtomItem → Type 0
IsAtomItem c n (Const t) = length t ≤ MOST_CHARACTERS
IsAtomItem c n (Whole s) = OlderSources c n s
IsAtomItem c n (Sub s p q) = OlderSources c n s × OlderPlaces c n p × OlderPlaces c n q

pub record AreAtoms (c : List Entry) (n : ℕ) (items : List AtomItem) : Type 0 where
  pub some : 0 < length items
  pub each : EachIn (IsAtomItem c n) items

-- a path of these edges leads from the first node to the second
abbrev pub Path : List Edge → ℕ → List Edge → ℕ → Type 0
Path edges from [] to = from ≡ to
Path edges from (e ∷ rest) to = In e edges × (e.from ≡ from) × Path edges e.to rest to

-- an edge leads on, within the nodes, and its atoms are an older set
pub record IsEdge (c : List Entry) (n nodes : ℕ) (e : Edge) : Type 0 where
  pub onward : e.from < e.to
  pub within : e.to < nodes
  pub atoms : OlderAtoms c n e.atoms

-- the edge leads to a node after its own, and none of the rest leads back to its own
pub record IsFirstEdge (e : Edge) (rest : List Edge) : Type 0 where
  pub onward : e.from < e.to
  pub never_back : (f : Edge) → In f rest → f.to ≢ e.from

-- at least one node, and each on a walk from node 0 to the last one; no walk has more edges than an example's text may have characters
pub record IsGraphOf (c : List Entry) (n nodes : ℕ) (edges : List Edge) : Type 0 where
  pub some : 0 < nodes
  pub each : EachIn (IsEdge c n nodes) edges
  pub from_first : (m : ℕ) → m < nodes → (path : List Edge) × Path edges 0 path m
  pub to_last : (m : ℕ) → m < nodes → (path : List Edge) × Path edges m path (nodes - 1)
  pub short : (from to : ℕ) (path : List Edge) → Path edges from path to → length path ≤ MOST_CHARACTERS

-- such a graph, and its edges are in a topological order
pub record IsSortedGraph (c : List Entry) (n nodes : ℕ) (edges : List Edge) : Type 0 where
  pub graph : IsGraphOf c n nodes edges
  pub topological : IsTopological edges

-- the entry of a number
abbrev pub IsEntry : List Entry → ℕ → Entry → Type 0
IsEntry c n (Places places) = ArePlaces places
IsEntry c n (Sources items) = AreSources c n items
IsEntry c n (Atoms items) = AreAtoms c n items
IsEntry c n (Graph nodes edges) = IsGraphOf c n nodes edges

abbrev pub IsWellMade : List Entry → Type 0
IsWellMade c = (n : ℕ) (e : Entry) → slice_get c n ≡ Some e → IsEntry c n e
