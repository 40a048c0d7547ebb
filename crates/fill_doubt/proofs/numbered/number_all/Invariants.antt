use Rattle.std.proofs.Common.{◌≡◌, Some}
use Rattle.fill_doubt.specs.Answers.{Gains}
use Rattle.fill_doubt.specs.Memo.{IsMemoOf}
use Rattle.fill_doubt.specs.Numbered.{AreNumbered, NumberedHave}
use Rattle.fill_doubt.specs.declared.row.OnRow.{OnRow}
use Rattle.fill_doubt.proofs.Gains.{SomeBelow}
use Rattle.fill_doubt.proofs.numbered.number_all.Given as goal

abbrev pub invariant-loop-i : goal.invariant-loop-i
invariant-loop-i l = record {
  memo : (on : OnRow) → IsMemoOf on l.initial.memo → IsMemoOf on l.memo;
  gains : Gains (NumberedHave l.initial.made) (NumberedHave l.made) (λ o. SomeBelow l.i l.found.texts.items (λ x. o ≡ Some x.now));
  numbered : AreNumbered l.memo.texts.items l.made;
}
