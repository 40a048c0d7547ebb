use Rattle.std.proofs.Common.{◌≤◌, length}
use Rattle.fill_meet.specs.Groups.{AreChainedFrom}
use Rattle.fill_meet.proofs.groups.chain.Given as goal

abbrev pub invariant-loop-i : goal.invariant-loop-i
invariant-loop-i l = record { within : l.i ≤ length l.keys; chained : AreChainedFrom l.i l.keys l.firsts l.nexts }

abbrev pub decreases-loop-i : goal.decreases-loop-i
decreases-loop-i l = l.i
