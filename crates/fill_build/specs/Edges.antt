-- The edges of the pieces of an example's text.
use Rattle.std.specs.Prelude.{◌≡◌, ◌↔◌, ◌⊎◌, ℕ, ◌+◌, ◌-◌, ◌<◌, ◌≤◌, List, [], ◌∷◌, ◌++◌, length, Option, Some, None, slice_get, slice_range}
use Rattle.fill_tree.specs.Tree.{AtomTree, Atoms}
use Rattle.fill_tree.specs.Chosen.{Explains}
use Rattle.fill_arena.specs.Contents.{SomeIn, EachIn, Extends, IsAtomSet}
use Rattle.fill_arena.specs.Stands.{AtomStands, Walks}
use Rattle.fill_arena.specs.WellMade.{IsGraphOf}
use Rattle.fill_arena.specs.declared.entry.Edge.{Edge}
use Rattle.fill_arena.specs.declared.entry.Entry.{Entry}
use Rattle.fill_trim.specs.declared.trim.Trimmed.{Trimmed}
use Rattle.fill_sources.specs.declared.row.OnRow.{OnRow}
use Rattle.fill_build.specs.Build.{example}
use Rattle.fill_build.specs.Pieces.{PieceAtom}
use Rattle.fill_build.specs.declared.node.Node.{Node}

-- a set of the arena in which, in each arena that extends it, exactly the atoms stand that give the piece
pub record AreAtomsOf (on : OnRow) (c : List Entry) (w : List ℕ) (s : ℕ) : Type 0 where
  pub set : IsAtomSet c s
  pub exact : (d : List Entry) → Extends c d → (a : AtomTree) → AtomStands d s a ↔ PieceAtom on w a

-- an edge from the piece's first node to its last one, with the atoms that give the piece
pub record IsPieceEdge (on : OnRow) (out : List ℕ) (c : List Entry) (e : Edge) : Type 0 where
  pub onward : e.from < e.to
  pub within : e.to ≤ length out
  pub atoms : AreAtomsOf on c (slice_range out e.from e.to) e.atoms

-- the edge leads from the one node to the other
abbrev pub IsBetween : ℕ → ℕ → Edge → Type 0
IsBetween from to e = (e.from ≡ from) × (e.to ≡ to)

-- the piece has an edge, or nothing gives it
abbrev pub IsCovered : OnRow → List ℕ → List Edge → ℕ → ℕ → Type 0
IsCovered on out edges from to =
    SomeIn (IsBetween from to) edges ⊎ ((a : AtomTree) → ¬ (PieceAtom on (slice_range out from to) a))

-- the edges of the pieces that begin before node i, or at it and have at most n characters
pub record EdgesSoFar (on : OnRow) (out : List ℕ) (i width : ℕ) (c : List Entry) (edges : List Edge) : Type 0 where
  pub each : EachIn (IsPieceEdge on out c) edges
  pub before : EachIn (λ e. e.from ≤ i) edges
  pub ordered : (j k : ℕ) (e f : Edge) → slice_get edges j ≡ Some e → slice_get edges k ≡ Some f → e.to ≡ f.from → j < k
  pub covers : (from to : ℕ) → from < to → to ≤ length out → (from < i) ⊎ ((from ≡ i) × (to ≤ i + width)) → IsCovered on out edges from to

-- the set of the atoms that give the piece, or none, where nothing gives it
abbrev pub IsSetOf : OnRow → List Entry → List ℕ → Option ℕ → Type 0
IsSetOf on c w None = (a : AtomTree) → ¬ (PieceAtom on w a)
IsSetOf on c w (Some s) = AreAtomsOf on c w s

-- the set on an edge between the nodes, or none, where there is no such edge
abbrev pub IsSetBetween : ℕ → ℕ → List Edge → Option ℕ → Type 0
IsSetBetween from to edges None = ¬ (SomeIn (IsBetween from to) edges)
IsSetBetween from to edges (Some s) = SomeIn (λ e. IsBetween from to e × (e.atoms ≡ s)) edges

-- an edge with the set was put to the others, where there is a set
abbrev pub IsPut : ℕ → ℕ → Option ℕ → List Edge → List Edge → Type 0
IsPut from to None old new = new ≡ old
IsPut from to (Some s) old new = new ≡ old ++ (record { from = from; to = to; atoms = s }) ∷ []

-- the edges of the pieces that begin at the node and have at most n characters were put to those of earlier nodes,
-- for whatever row and arena these are
pub record TakesEdges (n : Node) (width : ℕ) (old new : List Edge) : Type 0 where
  pub taken : (on : OnRow) (c : List Entry) → EdgesSoFar on n.text.now n.from 0 c old → EdgesSoFar on n.text.now n.from width c new

-- a graph of which, in each arena that extends this one, the walks have exactly the programs that explain the example
pub record AreWalks (on : OnRow) (out : List ℕ) (c : List Entry) (t : Trimmed) : Type 0 where
  pub graph : IsGraphOf c (length c) t.nodes t.edges
  pub walks : (d : List Entry) → Extends c d → (p : Atoms) →
      Walks p d t.edges (t.nodes - 1) 0 ↔ Explains on.settings on.sheet.now on.tables.now (example on.row out ∷ []) p
