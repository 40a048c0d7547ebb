use Rattle.std.proofs.Common.{◌-◌}
use Rattle.fill_meet.specs.Ties.{IsBelow, SweepState}
use Rattle.fill_meet.specs.Verdicts.{AreVerdicts}
use Rattle.fill_meet.proofs.few.try_edge.Given as goal

abbrev pub invariant-loop-v : goal.invariant-loop-v
invariant-loop-v l =
    record {
      verdicts : AreVerdicts l.arena l.few.verdicts;
      state : SweepState l.arena l.graphs l.k (IsBelow l.graphs.ys.now l.v) l.few.sweep;
    }

abbrev pub decreases-loop-v : goal.decreases-loop-v
decreases-loop-v l = l.graphs.width - l.v
