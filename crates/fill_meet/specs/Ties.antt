-- The pairs of edges that may have an atom in common: a pair of nodes has the number i * width + j.
use Rattle.std.specs.Prelude.{◌≡◌, ◌⊎◌, ℕ, ◌+◌, ◌*◌, ◌<◌, ◌≤◌, List, [], ◌∷◌, ◌++◌, Some, slice_get}
use Rattle.fill_arena.specs.Contents.{In, SomeIn, EachIn, IsAtomSet}
use Rattle.fill_arena.specs.Stands.{AtomStands}
use Rattle.fill_arena.specs.declared.entry.Entry.{Entry}
use Rattle.fill_arena.specs.declared.entry.Edge.{Edge}
use Rattle.fill_meet.specs.Bits.{HasRoom, IsBit, IsPutBit}
use Rattle.fill_meet.specs.Mates.{AreMates}
use Rattle.fill_meet.specs.Meet.{AreApart}
use Rattle.fill_meet.specs.declared.bits.Bits.{Bits}
use Rattle.fill_meet.specs.declared.index.Index.{Index}
use Rattle.fill_meet.specs.declared.rows.Rows.{Rows}
use Rattle.fill_meet.specs.declared.ties.Graphs.{Graphs}
use Rattle.fill_meet.specs.declared.ties.Sweep.{Sweep}
use Rattle.fill_meet.specs.declared.ties.Tie.{Tie}

-- the tie of the two edges
pub record IsTie (width : ℕ) (x y : Edge) (t : Tie) : Type 0 where
  pub from : t.from ≡ x.from * width + y.from
  pub to : t.to ≡ x.to * width + y.to
  pub left : t.left ≡ x.atoms
  pub right : t.right ≡ y.atoms

-- node 0, or one that a tie leads to
abbrev pub IsTied : List Tie → ℕ → Type 0
IsTied ties m = (m ≡ 0) ⊎ SomeIn (λ t. t.to ≡ m) ties

-- the tie of an edge of each graph
abbrev pub IsTieOf : ℕ → List Edge → List Edge → Tie → Type 0
IsTieOf width xs ys t = SomeIn (λ x. SomeIn (λ y. IsTie width x y t) ys) xs

-- the pair has its tie, or has no atom
abbrev pub IsSettled : List Entry → ℕ → List Tie → Edge → Edge → Type 0
IsSettled c width ties x y = SomeIn (IsTie width x y) ties ⊎ AreApart AtomStands c x.atoms y.atoms

-- ties of pairs of edges only, and each pair that something leads to is settled
pub record AreTies (c : List Entry) (width : ℕ) (xs ys : List Edge) (ties : List Tie) : Type 0 where
  pub sound : EachIn (IsTieOf width xs ys) ties
  pub covers : (x y : Edge) → In x xs → In y ys → IsTied ties (x.from * width + y.from) → IsSettled c width ties x y

-- ties that lead on, within the nodes, those into a node before those out of it
pub record AreOrdered (nodes : ℕ) (ties : List Tie) : Type 0 where
  pub onward : EachIn (λ t. (t.from < t.to) × (t.to < nodes)) ties
  pub ordered : (j k : ℕ) (t u : Tie) → slice_get ties j ≡ Some t → slice_get ties k ≡ Some u → t.to ≡ u.from → j < k

-- the sets of the ties' edges
abbrev pub NameSets : List Entry → List Tie → Type 0
NameSets c ties = EachIn (λ t. IsAtomSet c t.left × IsAtomSet c t.right) ties

-- one more tie, and what it leads to
abbrev pub IsPutTie : ℕ → Edge → Edge → Sweep → Sweep → Type 0
IsPutTie width x y old new = (t : Tie) × IsTie width x y t × IsPutBit x.to y.to old.reached new.reached × (new.ties ≡ old.ties ++ t ∷ [])

-- what was done for one pair
abbrev pub IsTried : ℕ → Edge → Edge → Sweep → Sweep → Type 0
IsTried width x y old new = ((IsBit old.reached x.from y.from → ⊥) × (new.reached ≡ old.reached) × (new.ties ≡ old.ties)) ⊎ IsPutTie width x y old new

-- the tie of an edge of the first graph up to the place k, into a pair of nodes that is reached
pub record IsFound (xs ys : List Edge) (width k : ℕ) (b : Bits) (t : Tie) : Type 0 where
  pub left : ℕ
  pub right : ℕ
  pub x : Edge
  pub y : Edge
  pub low : left ≤ k
  pub first : slice_get xs left ≡ Some x
  pub second : slice_get ys right ≡ Some y
  pub tie : IsTie width x y t
  pub to : IsBit b x.to y.to

-- the ties of the pairs of edges that were gone through: those of edges of the first graph before the place k, and that edge
-- with those of the second graph at the places of which D says so
pub record SweptSoFar (c : List Entry) (xs ys : List Edge) (width k : ℕ) (D : ℕ → Type 0) (b : Bits) (ties : List Tie) : Type 0 where
  pub first : IsBit b 0 0
  pub found : EachIn (IsFound xs ys width k b) ties
  pub covers : (a l : ℕ) (x y : Edge) → slice_get xs a ≡ Some x → slice_get ys l ≡ Some y → (a < k) ⊎ ((a ≡ k) × D l) → IsBit b x.from y.from → IsSettled c width ties x y
  pub ordered : (i j : ℕ) (t u : Tie) → slice_get ties i ≡ Some t → slice_get ties j ≡ Some u → t.to ≡ u.from → i < j

-- the state of the sweep
pub record SweepState (c : List Entry) (g : Graphs) (k : ℕ) (D : ℕ → Type 0) (s : Sweep) : Type 0 where
  pub room : HasRoom g.height g.width s.reached
  pub swept : SweptSoFar c g.xs.now g.ys.now g.width k D s.reached s.ties

-- an edge whose label is a number of the run before the place p
abbrev pub IsInRow : List ℕ → List ℕ → ℕ → ℕ → ℕ → Type 0
IsInRow labels numbers start p b = (q m : ℕ) × (start ≤ q) × (q < p) × (slice_get numbers q ≡ Some m) × (slice_get labels b ≡ Some m)

-- or one before the place l whose label is n
abbrev pub IsInRowTo : List ℕ → List ℕ → ℕ → ℕ → ℕ → ℕ → ℕ → Type 0
IsInRowTo labels numbers start p n l b = IsInRow labels numbers start p b ⊎ ((slice_get labels b ≡ Some n) × (b < l))

-- an edge out of a node before the node v
abbrev pub IsBelow : List Edge → ℕ → ℕ → Type 0
IsBelow ys v b = (y : Edge) × (slice_get ys b ≡ Some y) × (y.from < v)

-- or one out of v before the place l
abbrev pub IsBelowTo : List Edge → ℕ → ℕ → ℕ → Type 0
IsBelowTo ys v l b = IsBelow ys v b ⊎ ((y : Edge) × (slice_get ys b ≡ Some y) × (y.from ≡ v) × (b < l))

-- what the mates say is so
abbrev pub AreMatesKept : List Entry → Index → Rows → Type 0
AreMatesKept c i r = AreMates c i.places.sets.items r.search.mates
