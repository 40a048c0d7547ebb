-- Topological orders of a graph's edges: Kahn, "Topological sorting of large networks" (CACM 5(11), 1962).
use Rattle.std.specs.Prelude.{◌≡◌, ℕ, ◌<◌, List, Option, Some, None, slice_get}
use Rattle.std.specs.List.Sorted.{IsPermutation}
use Rattle.fill_arena.specs.declared.entry.Edge.{Edge}

-- the edge leads to a later node, which is one of the nodes
abbrev pub LeadsOn : ℕ → Edge → Type 0
LeadsOn nodes e = (e.from < e.to) × (e.to < nodes)

-- the edges into a node stand before those out of it
abbrev pub IsTopological : List Edge → Type 0
IsTopological edges = (j k : ℕ) (e f : Edge) → slice_get edges j ≡ Some e → slice_get edges k ≡ Some f → e.to ≡ f.from → j < k

-- the same edges in a topological order
pub record IsOrderOf (edges sorted : List Edge) : Type 0 where
  pub same : IsPermutation edges sorted
  pub topological : IsTopological sorted

-- the edges are in such an order, or such an order of them stands beside them
abbrev pub HasOrder : List Edge → Option (List Edge) → Type 0
HasOrder edges None = IsTopological edges
HasOrder edges (Some sorted) = IsOrderOf edges sorted
