use Rattle.fill_arena.proofs.Sorting.{AreLeft}
use Rattle.fill_arena.proofs.order.is_topological.Given as goal

abbrev pub invariant-loop-i : goal.invariant-loop-i
invariant-loop-i l = AreLeft l.nodes l.edges l.i l.left.items
