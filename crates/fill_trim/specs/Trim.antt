-- Graphs of which only the nodes on walks from the first node to the last one are left.
use Rattle.std.specs.Prelude.{◌≡◌, ◌↔◌, ℕ, ◌-◌, ◌<◌, List, [], ◌∷◌, length}
use Rattle.fill_arena.specs.Contents.{SomeIn, EachIn}
use Rattle.fill_arena.specs.Order.{IsTopological}
use Rattle.fill_arena.specs.WellMade.{Path}
use Rattle.fill_arena.specs.declared.entry.Edge.{Edge}
use Rattle.fill_trim.specs.declared.trim.Trimmed.{Trimmed}

-- a walk over the edges, from one node to another, has these sets of atoms on its edges, in order
abbrev pub HasWalk : List ℕ → List Edge → ℕ → ℕ → Type 0
HasWalk [] edges from to = from ≡ to
HasWalk (s ∷ rest) edges from to = SomeIn (λ e. (e.from ≡ from) × (e.atoms ≡ s) × HasWalk rest edges e.to to) edges

-- edges that lead on, within the nodes, those into a node before those out of it
pub record AreEdges (nodes : ℕ) (edges : List Edge) : Type 0 where
  pub onward : EachIn (λ e. (e.from < e.to) × (e.to < nodes)) edges
  pub ordered : IsTopological edges

-- what is left: each node is on a walk from the first node to the last one, these walks have the same sets as before, each
-- edge has the set of an edge of before, and no path is longer than one of before
pub record IsTrimmed (nodes : ℕ) (edges : List Edge) (t : Trimmed) : Type 0 where
  pub some : 0 < t.nodes
  pub are : AreEdges t.nodes t.edges
  pub from_first : (m : ℕ) → m < t.nodes → (path : List Edge) × Path t.edges 0 path m
  pub to_last : (m : ℕ) → m < t.nodes → (path : List Edge) × Path t.edges m path (t.nodes - 1)
  pub same : (sets : List ℕ) → HasWalk sets t.edges 0 (t.nodes - 1) ↔ HasWalk sets edges 0 (nodes - 1)
  pub origin : EachIn (λ e. SomeIn (λ f. f.atoms ≡ e.atoms) edges) t.edges
  pub short : (from to : ℕ) (path : List Edge) → Path t.edges from path to →
      (first : ℕ) × (last : ℕ) × (old : List Edge) × Path edges first old last × (length old ≡ length path)
