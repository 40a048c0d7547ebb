-- The numbers of an arena, and how arenas grow.
use Rattle.std.specs.Prelude.{◌≡◌, ◌≢◌, ◌⊎◌, ℕ, ◌<◌, List, [], ◌∷◌, ◌++◌, length, Some, slice_get}
use Rattle.fill_tokens.specs.declared.place.Place.{Place}
use Rattle.fill_arena.specs.Order.{IsOrderOf}
use Rattle.fill_arena.specs.declared.entry.Entry.{Entry}
use Rattle.fill_arena.specs.declared.entry.Entry.TheVariants.{Places, Sources, Atoms, Graph}
use Rattle.fill_arena.specs.declared.entry.SourceItem.{SourceItem}
use Rattle.fill_arena.specs.declared.entry.AtomItem.{AtomItem}
use Rattle.fill_arena.specs.declared.entry.Edge.{Edge}

-- an item of the list
abbrev pub In : {A : Type 0} → A → List A → Type 0
In x xs = (k : ℕ) × (slice_get xs k ≡ Some x)

-- some item of the list has the property
abbrev pub SomeIn : {A : Type 0} → (A → Type 0) → List A → Type 0
SomeIn {A} P xs = (x : A) × In x xs × P x

-- one of the first items has the property
abbrev pub SomeBelow : {A : Type 0} → ℕ → List A → (A → Type 0) → Type 0
SomeBelow {A} i xs P = (k : ℕ) × (x : A) × (k < i) × (slice_get xs k ≡ Some x) × P x

-- each item of the list has it
abbrev pub EachIn : {A : Type 0} → (A → Type 0) → List A → Type 0
EachIn {A} P xs = (k : ℕ) (x : A) → slice_get xs k ≡ Some x → P x

-- the number is that of a set of places, of sources, of atoms, or of a graph
abbrev pub IsPlaceSet : List Entry → ℕ → Type 0
IsPlaceSet c s = (places : List Place) × (slice_get c s ≡ Some (Places places))

abbrev pub IsSourceSet : List Entry → ℕ → Type 0
IsSourceSet c s = (items : List SourceItem) × (slice_get c s ≡ Some (Sources items))

abbrev pub IsAtomSet : List Entry → ℕ → Type 0
IsAtomSet c s = (items : List AtomItem) × (slice_get c s ≡ Some (Atoms items))

abbrev pub IsGraph : List Entry → ℕ → Type 0
IsGraph c g = (nodes : ℕ) × (edges : List Edge) × (slice_get c g ≡ Some (Graph nodes edges))

-- the graph has this number of nodes
abbrev pub HasNodes : List Entry → ℕ → ℕ → Type 0
HasNodes c g nodes = (edges : List Edge) × (slice_get c g ≡ Some (Graph nodes edges))

abbrev pub HasEdges : List Entry → ℕ → List Edge → Type 0
HasEdges c g edges = (nodes : ℕ) × (slice_get c g ≡ Some (Graph nodes edges))

-- these are the edges of the graph in a topological order
abbrev pub HasSortedEdges : List Entry → ℕ → List Edge → Type 0
HasSortedEdges c g sorted = (edges : List Edge) × HasEdges c g edges × IsOrderOf edges sorted

-- each number of the first arena stands in the second one for the same
abbrev pub Extends : List Entry → List Entry → Type 0
Extends c d = (n : ℕ) (e : Entry) → slice_get c n ≡ Some e → slice_get d n ≡ Some e

-- the entry stands under no number
abbrev pub IsAbsent : List Entry → Entry → Type 0
IsAbsent c e = (n : ℕ) → slice_get c n ≢ Some e

-- no two numbers have equal contents
abbrev pub AreDistinct : List Entry → Type 0
AreDistinct c = (m n : ℕ) (e : Entry) → slice_get c m ≡ Some e → slice_get c n ≡ Some e → m ≡ n

-- the number has the entry: it did already, and nothing changed; or none did, and it alone was added, as the last
abbrev pub Interns : List Entry → List Entry → Entry → ℕ → Type 0
Interns c d e n = ((slice_get c n ≡ Some e) × (d ≡ c)) ⊎ (IsAbsent c e × (n ≡ length c) × (d ≡ c ++ e ∷ []))
