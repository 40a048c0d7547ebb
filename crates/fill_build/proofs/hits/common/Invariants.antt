use Rattle.fill_build.specs.Hits.{BeginAlike}
use Rattle.fill_build.proofs.hits.common.Given as goal

abbrev pub invariant-loop-i : goal.invariant-loop-i
invariant-loop-i l = BeginAlike l.xs l.ys l.i
