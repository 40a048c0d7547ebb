use Rattle.fill_doubt.specs.Memo.{IsMemoOf, EdgeAnswers}
use Rattle.fill_doubt.proofs.Walked.{IsWalked}
use Rattle.fill_doubt.proofs.pass.one_answer.Given as goal

abbrev pub invariant-loop-i : goal.invariant-loop-i
invariant-loop-i l = record {
  memo : IsMemoOf l.on l.memo;
  walked : IsWalked (EdgeAnswers l.on) l.edges l.nodes l.at l.text l.i;
}
