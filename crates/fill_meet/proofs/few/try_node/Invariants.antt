use Rattle.std.proofs.Common.{◌≡◌, ◌-◌, length, Some, slice_get}
use Rattle.fill_arena.specs.declared.entry.Edge.{Edge}
use Rattle.fill_meet.specs.Ties.{IsBelowTo, SweepState}
use Rattle.fill_meet.specs.Verdicts.{AreVerdicts}
use Rattle.fill_meet.proofs.few.try_node.Given as goal

abbrev pub invariant-loop-l : goal.invariant-loop-l
invariant-loop-l l =
    record {
      verdicts : AreVerdicts l.arena l.few.verdicts;
      state : SweepState l.arena l.graphs l.k (IsBelowTo l.graphs.ys.now l.v l.l) l.few.sweep;
      from : (y : Edge) → slice_get l.graphs.ys.now l.l ≡ Some y → y.from ≡ l.v;
    }

abbrev pub decreases-loop-l : goal.decreases-loop-l
decreases-loop-l l = length l.graphs.ys.now - l.l
