use Rattle.std.proofs.Common.{ap, ap₂, ◌∙◌, [], ◌∷◌, codes}
use Rattle.std.proofs.lemmas.Result.{IfOk-weaker}
use Rattle.clap.specs.Words.{with_rule}
use Rattle.clap.specs.Simple.{app_of}
use Rattle.fillcsv_options.specs.Options.{several_rule, value_rule}
use Rattle.fillcsv_options.proofs.Rules.{rule_more}
use Rattle.fillcsv_options.proofs.options.with_rules.Goals as goal

pub returns : goal.returns
returns c =
    let a = app_of c.args.command in
    let one = c.in_ok-arg.ensures.shape c.several-table.ensures.local ∙ ap (with_rule a) c.several-table.ensures.rule in
    let two = c.in_ok-arg-2.ensures.shape c.several-key.ensures.local ∙ (ap₂ with_rule one c.several-key.ensures.rule ∙ rule_more a (several_rule (codes "table") ∷ []) (several_rule (codes "key"))) in
    let three = c.in_ok-arg-3.ensures.shape c.valued-depth.ensures.local ∙ (ap₂ with_rule two c.valued-depth.ensures.rule ∙ rule_more a (several_rule (codes "table") ∷ several_rule (codes "key") ∷ []) (value_rule (codes "depth"))) in
    IfOk-weaker c.arg-4.result _ _ (λ r h. h.shape c.valued-profile.ensures.local ∙ (ap₂ with_rule three c.valued-profile.ensures.rule ∙ rule_more a (several_rule (codes "table") ∷ several_rule (codes "key") ∷ value_rule (codes "depth") ∷ []) (value_rule (codes "profile")))) c.arg-4.ensures
