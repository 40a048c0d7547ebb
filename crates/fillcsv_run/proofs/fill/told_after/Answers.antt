use Rattle.std.proofs.Common.{None, Result, subst}
use Rattle.std.specs.Prelude.{option_map}
use Rattle.fill_output.specs.declared.halt.Halt.{Halt}
use Rattle.fillcsv_run.specs.Filling.{EndsSheet}
use Rattle.fillcsv_run.specs.Read.{frame_data, page_over}
use Rattle.fillcsv_run.specs.declared.fill.Filled.{Filled}
use Rattle.fillcsv_run.proofs.Desks.{begun_of, done_of, halted_page}
use Rattle.fillcsv_run.proofs.fill.told_after.Goals as goal

pub returns-in-Ok-told_of-clause-ends : goal.returns-in-Ok-told_of-clause-ends
returns-in-Ok-told_of-clause-ends c = λ first last s tables w.
    let saving = option_map frame_data c.args.saving in
    let whole = subst (λ (r : Result Filled Halt). EndsSheet first last (page_over s tables None) r) c.in-Ok.is w in
    done_of first last s tables saving c.in-Ok.filled whole _ _ _ c.in-Ok-told_of.ensures.refused c.in-Ok-told_of.ensures.unsure c.in-Ok-told_of.ensures.text

pub returns-in-Err-told_of-clause-ends : goal.returns-in-Err-told_of-clause-ends
returns-in-Err-told_of-clause-ends c = λ first last s tables w.
    let saving = option_map frame_data c.args.saving in
    let whole = subst (λ (r : Result Filled Halt). EndsSheet first last (page_over s tables None) r) c.in-Ok.is w in
    begun_of first last s tables saving c.in-Ok.filled whole

pub returns-in-Err-clause-ends : goal.returns-in-Err-clause-ends
returns-in-Err-clause-ends c = λ first last s tables w.
    let halted = subst (λ (r : Result Filled Halt). EndsSheet first last (page_over s tables None) r) c.in-Err.is w in
    halted_page first last s tables (option_map frame_data c.args.saving) c.in-Err.halt halted
