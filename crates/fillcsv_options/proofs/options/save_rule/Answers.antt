use Rattle.std.proofs.Common.{refl}
use Rattle.std.proofs.lemmas.Result.{IfOk-weaker}
use Rattle.fillcsv_options.proofs.Rules.{rule_renamed}
use Rattle.fillcsv_options.proofs.options.save_rule.Goals as goal

pub returns-clause-rule : goal.returns-clause-rule
returns-clause-rule c =
    IfOk-weaker c.alias.result _ _ (λ arg adds. rule_renamed c.text.result arg _ _ adds c.text.ensures.rule refl) c.alias.ensures
