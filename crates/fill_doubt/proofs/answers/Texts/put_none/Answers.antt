use Rattle.fill_doubt.proofs.Gains.{have_lacks, have_lacks_none}
use Rattle.fill_doubt.proofs.answers.Texts.put_none.Goals as goal

pub returns-then-not-lacks-clause-gains : goal.returns-then-not-lacks-clause-gains
returns-then-not-lacks-clause-gains c = have_lacks_none (λ x. x.now) c.args.self.now.texts.items c.args.self.now.none c.args.lacks c.if-not-lacks.true

pub returns-clause-gains : goal.returns-clause-gains
returns-clause-gains c = have_lacks (λ x. x.now) c.args.self.now.texts.items c.args.self.now.none c.args.lacks c.if-not-lacks.false
