use Rattle.std.proofs.Common.{◌↔◌, ℕ, List, Option}
use Rattle.fill_doubt.specs.Memo.{SourceAnswers}
use Rattle.fill_doubt.specs.Numbered.{AreNumbered, NumberedHave}
use Rattle.fill_doubt.specs.declared.numbered.NumberedTexts.{NumberedTexts}
use Rattle.fill_doubt.proofs.Maps.{found_right}
use Rattle.fill_doubt.proofs.memo.Memo.source.Goals as goal

pub returns-clause-answers : goal.returns-clause-answers
returns-clause-answers c on memo = found_right (λ (f : NumberedTexts). (o : Option (List ℕ)) → NumberedHave f o ↔ SourceAnswers on c.args.s o) _ _ c.get.ensures.value (memo.sources c.args.s)

pub returns-clause-numbered : goal.returns-clause-numbered
returns-clause-numbered c on memo = found_right (λ (f : NumberedTexts). AreNumbered c.args.self.now.texts.items f) _ _ c.get.ensures.value (memo.numbers c.args.s)
