use Rattle.fillcsv_run.proofs.Likeness.{answers_alike, same_tables}
use Rattle.fillcsv_run.proofs.laws.saved_rules_answer_alike.Goals as goal

pub returns : goal.returns
returns c = record {
  tables = λ asked held read switch opens. same_tables asked held read opens;
  answers = answers_alike;
}
