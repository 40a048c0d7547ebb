use Rattle.test_graphs.proofs.Trimmed.{AreSorted}
use Rattle.test_graphs.proofs.trim.are_edges.Given as goal

abbrev pub invariant-loop-i : goal.invariant-loop-i
invariant-loop-i l = AreSorted l.nodes l.edges l.i l.least
