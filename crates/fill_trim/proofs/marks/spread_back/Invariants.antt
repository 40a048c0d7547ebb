use Rattle.std.proofs.Common.{◌-◌, ◌≤◌, length}
use Rattle.fill_trim.specs.Marks.{AreMarks}
use Rattle.fill_trim.proofs.Passes.{GoesFrom}
use Rattle.fill_trim.proofs.marks.spread_back.Given as goal

abbrev pub invariant-loop-i : goal.invariant-loop-i
invariant-loop-i l =
    record {
      within : l.i ≤ length l.edges;
      marks : AreMarks (length l.fn.marks) (GoesFrom l.edges (length l.fn.marks - 1) l.i) l.marks;
    }

abbrev pub decreases-loop-i : goal.decreases-loop-i
decreases-loop-i l = l.i
