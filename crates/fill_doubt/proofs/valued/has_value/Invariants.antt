use Rattle.std.proofs.Common.{◌≡◌, length}
use Rattle.fill_doubt.specs.Memo.{IsMemoOf, EdgeAnswers}
use Rattle.fill_doubt.proofs.Marks.{AreMarks}
use Rattle.fill_doubt.proofs.valued.has_value.Given as goal

abbrev pub invariant-loop-i : goal.invariant-loop-i
invariant-loop-i l = record {
  memo : IsMemoOf l.on l.memo;
  long : length l.marks.items ≡ l.nodes;
  marks : AreMarks (EdgeAnswers l.on) l.edges l.marks.items l.i;
}
