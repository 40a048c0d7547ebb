use Rattle.std.proofs.Common.{◌∙◌, Option, Some, List, ℕ, [], ap, append-nil, refl, subst, sym}
use Rattle.fillcsv_rows.specs.Learned.{Gives, given_for}
use Rattle.fillcsv_rows.specs.declared.learning.Refused.{Refused}
use Rattle.fillcsv_rows.proofs.Written.{when_ok}
use Rattle.fillcsv_filling.specs.Long.{long_of}
use Rattle.fillcsv_filling.specs.Taught.{LearnsRow, examples_of, ground_with}
use Rattle.fillcsv_filling.proofs.learning.learn_row.Goals as goal

pub returns-in-None-clause-learns : goal.returns-in-None-clause-learns
returns-in-None-clause-learns g c = λ bytes step below.
    let over = ground_with (long_of bytes c.args.sheet.now) c.args.block.now in
    let examples = examples_of c.args.block.now in
    let none : List Refused = [] in
    record {
      step = step;
      tables = refl;
      gives = (none, subst (λ (o : Option (List ℕ)). Gives over examples c.args.row.number o examples none) (c.in-None.ensures over examples step.stands) (refl, refl), sym (append-nil c.args.learned.now.refused));
    }

pub returns-in-Ok-clause-learns : goal.returns-in-Ok-clause-learns
returns-in-Ok-clause-learns g c =
    when_ok c.learn_text.result
    (λ told. λ bytes step below.
    let s = long_of bytes c.args.sheet.now in
    let old = c.args.block.now in
    let given = ap (λ (t : List ℕ). Some t) c.in-Ok.ensures ∙ c.in-Some.ensures (ground_with s old) (examples_of old) step.stands in
    subst (λ (o : Option (List ℕ)). LearnsRow s old c.args.learned.now c.learn_text.new.learned c.args.row.number o c.learn_text.new.block) given (told s step below))
    c.learn_text.ensures.learns
