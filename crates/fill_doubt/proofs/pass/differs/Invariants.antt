use Rattle.std.proofs.Common.{◌≡◌, length}
use Rattle.fill_doubt.specs.Memo.{IsMemoOf, EdgeAnswers}
use Rattle.fill_doubt.specs.Walks.{AreLaid}
use Rattle.fill_doubt.proofs.Laid.{AllAgree}
use Rattle.fill_doubt.proofs.pass.differs.Given as goal

abbrev pub invariant-loop-i : goal.invariant-loop-i
invariant-loop-i l = record {
  memo : IsMemoOf l.on l.memo;
  long : length l.lengths.items ≡ l.nodes;
  laid : AreLaid (EdgeAnswers l.on) l.edges l.text l.lengths.items;
  all : AllAgree (EdgeAnswers l.on) l.edges l.text l.lengths.items l.i;
}
