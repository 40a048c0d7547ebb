use Rattle.std.proofs.Common.{◌≡◌}
use Rattle.fill_trim.specs.Marks.{rank}
use Rattle.fill_trim.proofs.trim.count_on.Given as goal

abbrev pub invariant-loop-node : goal.invariant-loop-node
invariant-loop-node l = l.count ≡ rank l.node_marks l.node
