-- Marks of nodes, and what is left of a graph where only marked nodes stay.
use Rattle.std.specs.Prelude.{◌≡◌, ◌↔◌, ℕ, zero, suc, ◌+◌, ◌-◌, ◌*◌, ◌/◌, ◌<◌, ◌&&◌, Bool, true, false, cond, List, [], ◌∷◌, length, get_or, set, Some, slice_get}
use Rattle.fill_arena.specs.WellMade.{Path}
use Rattle.fill_arena.specs.declared.entry.Edge.{Edge}
use Rattle.fill_trim.specs.Trim.{HasWalk}

-- a path leads from the first node to the second one
abbrev pub Leads : List Edge → ℕ → ℕ → Type 0
Leads edges from to = (path : List Edge) × Path edges from path to

-- no walk leads from node 0 to the last node
abbrev pub HasNoWalk : ℕ → List Edge → Type 0
HasNoWalk nodes edges = (sets : List ℕ) → ¬ (HasWalk sets edges 0 (nodes - 1))

abbrev pub IsMarked : List Bool → ℕ → Type 0
IsMarked marks m = slice_get marks m ≡ Some true

-- one mark for each node, true exactly where the node has the property
pub record AreMarks (nodes : ℕ) (P : ℕ → Type 0) (marks : List Bool) : Type 0 where
  pub long : length marks ≡ nodes
  pub each : (m : ℕ) → m < nodes → IsMarked marks m ↔ P m

-- the marks, with the second node marked where the first one is
abbrev pub spread : List Bool → ℕ → ℕ → List Bool
spread marks from to = cond (get_or marks from false) (set marks to true) marks

-- how many nodes before node n are marked
abbrev pub rank : List Bool → ℕ → ℕ
rank [] n = 0
rank (b ∷ bs) zero = 0
rank (true ∷ bs) (suc n) = suc (rank bs n)
rank (false ∷ bs) (suc n) = rank bs n

-- the number of marked nodes before each 32nd node
pub record AreRanks (marks : List Bool) (ranks : List ℕ) : Type 0 where
  pub long : length ranks ≡ length marks / 32 + 1
  pub each : (k : ℕ) → k < length ranks → slice_get ranks k ≡ Some (rank marks (k * 32))

-- the edge between the numbers that its nodes have among the marked ones
abbrev pub renumbered : List Bool → Edge → Edge
renumbered marks e = record { from = rank marks e.from; to = rank marks e.to; atoms = e.atoms }

-- the edges between marked nodes, renumbered
abbrev pub edges_left : List Bool → List Edge → List Edge
edges_left marks [] = []
edges_left marks (e ∷ rest) =
    cond (get_or marks e.from false && get_or marks e.to false) (renumbered marks e ∷ edges_left marks rest) (edges_left marks rest)
