use Rattle.std.proofs.Common.{ap, subst, sym}
use Rattle.fillcsv_options.specs.Words.{Answers, meaning_of_asked}
use Rattle.fillcsv_options.proofs.reading.asked_of.Goals as goal

pub returns : goal.returns
returns c = subst (λ m. Answers m c.going_together.result) (sym (ap meaning_of_asked c.in_ok-asked.ensures)) c.going_together.ensures
