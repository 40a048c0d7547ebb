use Rattle.std.proofs.Common.{◌≡◌, ◌++◌, drop}
use Rattle.fill_trim.specs.Marks.{edges_left}
use Rattle.fill_trim.proofs.trim.kept_edges.Given as goal

abbrev pub invariant-loop-i : goal.invariant-loop-i
invariant-loop-i l = l.made ++ edges_left l.node_marks (drop l.i l.edges) ≡ edges_left l.node_marks l.edges
