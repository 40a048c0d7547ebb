use Rattle.fill_doubt.proofs.Gains.{have_lacks, have_lacks_none}
use Rattle.fill_doubt.proofs.answers.Positions.put_none.Goals as goal

pub returns-then-not-lacks : goal.returns-then-not-lacks
returns-then-not-lacks c = have_lacks_none (λ x. x) c.args.self.now.positions.items c.args.self.now.none c.args.lacks c.if-not-lacks.true

pub returns : goal.returns
returns c = have_lacks (λ x. x) c.args.self.now.positions.items c.args.self.now.none c.args.lacks c.if-not-lacks.false
