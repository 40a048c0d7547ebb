use Rattle.std.proofs.Common.{◌∙◌}
use Rattle.fill_session.proofs.Held.{none_held}
use Rattle.fill_session.proofs.present.Present.none.Goals as goal

pub returns-clause-held : goal.returns-clause-held
returns-clause-held c = λ s same.
    none_held s c.new.result c.new-2.result c.new-3.result c.args.settings.now c.new.ensures c.new-3.ensures (c.new-2.ensures.rule ∙ c.rule_of-rule.ensures) (c.new-2.ensures.stands s) same
