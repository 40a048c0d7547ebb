use Rattle.std.proofs.Common.{ap, ap₂, ◌∙◌, [], ◌∷◌, codes}
use Rattle.std.proofs.lemmas.Result.{IfOk-weaker}
use Rattle.clap.specs.Words.{with_rule}
use Rattle.clap.specs.Simple.{app_of}
use Rattle.fillcsv_options.specs.Options.{flag_rule, text_rule}
use Rattle.fillcsv_options.proofs.Rules.{rule_more}
use Rattle.fillcsv_options.proofs.options.with_runs.Goals as goal

pub returns : goal.returns
returns c =
    let a = app_of c.args.command in
    let one = c.in_ok-arg.ensures.shape c.text-rule.ensures.local ∙ ap (with_rule a) c.text-rule.ensures.rule in
    IfOk-weaker c.arg-2.result _ _ (λ r h. h.shape c.flag-quiet.ensures.local ∙ (ap₂ with_rule one c.flag-quiet.ensures.rule ∙ rule_more a (text_rule (codes "rule") ∷ []) (flag_rule (codes "quiet")))) c.arg-2.ensures
