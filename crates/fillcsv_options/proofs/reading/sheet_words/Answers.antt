use Rattle.std.proofs.Common.{ap, sym, subst, map, string_bytes, ◌∙◌}
use Rattle.clap.specs.Walk.{rows_of}
use Rattle.clap.specs.Words.{fault_of, found_of, is_simple, is_simple_and_free, matches_of}
use Rattle.clap.specs.Kinds.{HasKind}
use Rattle.fillcsv_options.specs.Words.{Answers}
use Rattle.fillcsv_options.proofs.OneKind.{app_is_simple, app_is_simple_and_free, refusal_says, taken_means}
use Rattle.fillcsv_options.proofs.Proper.{rows_proper}
use Rattle.fillcsv_options.proofs.reading.sheet_words.Goals as goal

pub returns-in-Ok-clause-answer : goal.returns-in-Ok-clause-answer
returns-in-Ok-clause-answer c =
    let words = map string_bytes c.args.words.now in
    let app_is = c.in_ok-options.ensures in
    let rows = rows_of (found_of c.in-Ok.matches) in
    let fine = ap (λ a. fault_of a words) (sym app_is) ∙ c.in-Ok.ensures.kinds (ap is_simple_and_free app_is ∙ app_is_simple_and_free) in
    let are = (c.in-Ok.ensures.matches (ap is_simple app_is ∙ app_is_simple)).0 ∙ ap (λ a. matches_of a words) app_is in
    subst (λ m. Answers m c.asked_by.result) (taken_means words rows fine are) c.asked_by.ensures

pub returns-in-Ok-clause-lookups : goal.returns-in-Ok-clause-lookups
returns-in-Ok-clause-lookups c = rows_proper (rows_of (found_of c.in-Ok.matches)) c.asked_by.result c.asked_by.ensures

pub returns-in-Err-clause-answer : goal.returns-in-Err-clause-answer
returns-in-Err-clause-answer c =
    let words = map string_bytes c.args.words.now in
    let app_is = c.in_ok-options.ensures in
    let kinds = subst (λ a. HasKind (fault_of a words) c.in-Err.error) app_is (c.in-Err.ensures.kinds (ap is_simple_and_free app_is ∙ app_is_simple_and_free)) in
    refusal_says words c.in-Err.error c.of.result kinds c.of.ensures.meaning c.of.ensures.memory
