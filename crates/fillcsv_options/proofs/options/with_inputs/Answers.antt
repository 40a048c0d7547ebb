use Rattle.std.proofs.Common.{ap, ap₂, ◌∙◌, [], ◌∷◌, codes}
use Rattle.std.proofs.lemmas.Result.{IfOk-weaker}
use Rattle.clap.specs.Words.{with_rule}
use Rattle.clap.specs.Simple.{app_of}
use Rattle.fillcsv_options.specs.Options.{file_rule, flag_rule, from_rule, several_rule, text_rule, value_rule}
use Rattle.fillcsv_options.proofs.Rules.{rule_more}
use Rattle.fillcsv_options.proofs.options.with_inputs.Goals as goal

pub returns : goal.returns
returns c =
    let a = app_of c.args.command in
    let one = c.in_ok-arg.ensures.shape c.file.ensures.local ∙ ap (with_rule a) c.file.ensures.rule in
    let two = c.in_ok-arg-2.ensures.shape c.valued-to.ensures.local ∙ (ap₂ with_rule one c.valued-to.ensures.rule ∙ rule_more a (file_rule ∷ []) (value_rule (codes "to"))) in
    let three = c.in_ok-arg-3.ensures.shape c.text-new.ensures.local ∙ (ap₂ with_rule two c.text-new.ensures.rule ∙ rule_more a (file_rule ∷ value_rule (codes "to") ∷ []) (text_rule (codes "new"))) in
    let four = c.in_ok-arg-4.ensures.shape c.from.ensures.local ∙ (ap₂ with_rule three c.from.ensures.rule ∙ rule_more a (file_rule ∷ value_rule (codes "to") ∷ text_rule (codes "new") ∷ []) (from_rule)) in
    let five = c.in_ok-arg-5.ensures.shape c.flag-no_header.ensures.local ∙ (ap₂ with_rule four c.flag-no_header.ensures.rule ∙ rule_more a (file_rule ∷ value_rule (codes "to") ∷ text_rule (codes "new") ∷ from_rule ∷ []) (flag_rule (codes "no-header"))) in
    let six = c.in_ok-arg-6.ensures.shape c.several-example.ensures.local ∙ (ap₂ with_rule five c.several-example.ensures.rule ∙ rule_more a (file_rule ∷ value_rule (codes "to") ∷ text_rule (codes "new") ∷ from_rule ∷ flag_rule (codes "no-header") ∷ []) (several_rule (codes "example"))) in
    IfOk-weaker c.arg-7.result _ _ (λ r h. h.shape c.flag-replace.ensures.local ∙ (ap₂ with_rule six c.flag-replace.ensures.rule ∙ rule_more a (file_rule ∷ value_rule (codes "to") ∷ text_rule (codes "new") ∷ from_rule ∷ flag_rule (codes "no-header") ∷ several_rule (codes "example") ∷ []) (flag_rule (codes "replace")))) c.arg-7.ensures
