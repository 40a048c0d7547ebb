use Rattle.std.proofs.Common.{length}
use Rattle.fill_trim.specs.Marks.{AreMarks}
use Rattle.fill_trim.proofs.Passes.{CameBy}
use Rattle.fill_trim.proofs.marks.spread_forth.Given as goal

abbrev pub invariant-loop-i : goal.invariant-loop-i
invariant-loop-i l = AreMarks (length l.fn.marks) (CameBy l.edges l.i) l.marks
