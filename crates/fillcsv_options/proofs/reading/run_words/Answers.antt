use Rattle.std.proofs.Common.{ap, sym, subst, map, string_bytes, ◌∙◌}
use Rattle.clap.specs.Walk.{rows_of}
use Rattle.clap.specs.Words.{fault_of, found_of, is_simple, is_simple_and_free, matches_of}
use Rattle.clap.specs.Kinds.{HasKind}
use Rattle.fillcsv_options.specs.Words.{AnswersRun}
use Rattle.fillcsv_options.proofs.OneKind.{run_is_simple, run_is_simple_and_free, run_refusal_says, run_taken_means}
use Rattle.fillcsv_options.proofs.reading.run_words.Goals as goal

pub returns-in-Ok : goal.returns-in-Ok
returns-in-Ok c =
    let words = map string_bytes c.args.words.now in
    let app_is = c.in_ok-options.ensures in
    let rows = rows_of (found_of c.in-Ok.matches) in
    let fine = ap (λ a. fault_of a words) (sym app_is) ∙ c.in-Ok.ensures.kinds (ap is_simple_and_free app_is ∙ run_is_simple_and_free) in
    let are = (c.in-Ok.ensures.matches (ap is_simple app_is ∙ run_is_simple)).0 ∙ ap (λ a. matches_of a words) app_is in
    subst (λ m. AnswersRun m c.saved_by.result) (run_taken_means words rows fine are) c.saved_by.ensures

pub returns-in-Err : goal.returns-in-Err
returns-in-Err c =
    let words = map string_bytes c.args.words.now in
    let app_is = c.in_ok-options.ensures in
    let kinds = subst (λ a. HasKind (fault_of a words) c.in-Err.error) app_is (c.in-Err.ensures.kinds (ap is_simple_and_free app_is ∙ run_is_simple_and_free)) in
    run_refusal_says words c.in-Err.error c.of.result kinds c.of.ensures.meaning c.of.ensures.memory
