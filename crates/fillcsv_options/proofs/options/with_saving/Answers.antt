use Rattle.std.proofs.Common.{ap, ◌∙◌}
use Rattle.std.proofs.lemmas.Result.{IfOk-weaker}
use Rattle.clap.specs.Words.{with_rule}
use Rattle.clap.specs.Simple.{app_of}
use Rattle.fillcsv_options.proofs.options.with_saving.Goals as goal

pub returns : goal.returns
returns c =
    let a = app_of c.args.command in
    IfOk-weaker c.arg.result _ _ (λ r h. h.shape c.in_ok-save.ensures.local ∙ ap (with_rule a) c.in_ok-save.ensures.rule) c.arg.ensures
