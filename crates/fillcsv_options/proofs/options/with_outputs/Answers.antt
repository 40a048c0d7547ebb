use Rattle.std.proofs.Common.{ap, ap₂, ◌∙◌, [], ◌∷◌, codes}
use Rattle.std.proofs.lemmas.Result.{IfOk-weaker}
use Rattle.clap.specs.Words.{with_rule}
use Rattle.clap.specs.Simple.{app_of}
use Rattle.fillcsv_options.specs.Options.{flag_rule, value_rule}
use Rattle.fillcsv_options.proofs.Rules.{rule_more}
use Rattle.fillcsv_options.proofs.options.with_outputs.Goals as goal

pub returns : goal.returns
returns c =
    let a = app_of c.args.command in
    let one = c.in_ok-arg.ensures.shape c.flag-state.ensures.local ∙ ap (with_rule a) c.flag-state.ensures.rule in
    let two = c.in_ok-arg-2.ensures.shape c.valued-only.ensures.local ∙ (ap₂ with_rule one c.valued-only.ensures.rule ∙ rule_more a (flag_rule (codes "state") ∷ []) (value_rule (codes "only"))) in
    let three = c.in_ok-arg-3.ensures.shape c.flag-strict.ensures.local ∙ (ap₂ with_rule two c.flag-strict.ensures.rule ∙ rule_more a (flag_rule (codes "state") ∷ value_rule (codes "only") ∷ []) (flag_rule (codes "strict"))) in
    let four = c.in_ok-arg-4.ensures.shape c.flag-quiet.ensures.local ∙ (ap₂ with_rule three c.flag-quiet.ensures.rule ∙ rule_more a (flag_rule (codes "state") ∷ value_rule (codes "only") ∷ flag_rule (codes "strict") ∷ []) (flag_rule (codes "quiet"))) in
    let five = c.in_ok-arg-5.ensures.shape c.flag-explain.ensures.local ∙ (ap₂ with_rule four c.flag-explain.ensures.rule ∙ rule_more a (flag_rule (codes "state") ∷ value_rule (codes "only") ∷ flag_rule (codes "strict") ∷ flag_rule (codes "quiet") ∷ []) (flag_rule (codes "explain"))) in
    IfOk-weaker c.arg-6.result _ _ (λ r h. h.shape c.flag-ask.ensures.local ∙ (ap₂ with_rule five c.flag-ask.ensures.rule ∙ rule_more a (flag_rule (codes "state") ∷ value_rule (codes "only") ∷ flag_rule (codes "strict") ∷ flag_rule (codes "quiet") ∷ flag_rule (codes "explain") ∷ []) (flag_rule (codes "ask")))) c.arg-6.ensures
