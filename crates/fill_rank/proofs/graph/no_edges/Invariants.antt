use Rattle.std.proofs.Common.{◌≡◌, ℕ, ◌+◌, Option, Some, None, length, slice_get}
use Rattle.fill_tree.specs.declared.chain.Chain.{Chain}
use Rattle.fill_rank.proofs.graph.no_edges.Given as goal

abbrev pub invariant-loop-node : goal.invariant-loop-node
invariant-loop-node l = record { counted : length l.rests.items + 1 ≡ l._node; none : (n : ℕ) (o : Option Chain) → slice_get l.rests.items n ≡ Some o → o ≡ None }
