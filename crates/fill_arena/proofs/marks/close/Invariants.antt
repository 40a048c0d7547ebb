use Rattle.std.proofs.Common.{◌≤◌, length}
use Rattle.fill_arena.proofs.Marking.{IsClosedFrom}
use Rattle.fill_arena.proofs.marks.close.Given as goal

abbrev pub invariant-loop-i : goal.invariant-loop-i
invariant-loop-i l =
    record {
      within : l.i ≤ length l.marks;
      closed : IsClosedFrom l.arena l.i l.fn.marks l.marks;
    }

abbrev pub decreases-loop-i : goal.decreases-loop-i
decreases-loop-i l = l.i
