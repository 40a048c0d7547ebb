use Rattle.std.proofs.Common.{◌≡◌, ℕ, ◌+◌, [], length, slice_get, Some}
use Rattle.fill_best.proofs.graph.no_edges.Given as goal

abbrev pub invariant-loop-node : goal.invariant-loop-node
invariant-loop-node l = record { counted : length l.rests.items + 1 ≡ l._node; none : (n : ℕ) (o : _) → slice_get l.rests.items n ≡ Some o → o.items ≡ [] }
