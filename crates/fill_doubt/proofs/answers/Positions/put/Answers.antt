use Rattle.std.proofs.Common.{refl}
use Rattle.fill_doubt.proofs.Gains.{have_there, have_pushed}
use Rattle.fill_doubt.proofs.answers.Positions.put.Goals as goal

pub returns-then-has : goal.returns-then-has
returns-then-has c = have_there (λ x. x) c.args.self.now.positions.items c.args.self.now.none c.args.position (c.has.ensures.0 c.if-has.true)

pub returns-in-Ok : goal.returns-in-Ok
returns-in-Ok c = have_pushed (λ x. x) c.args.self.now.positions.items _ c.args.self.now.none _ _ c.in-Ok.ensures.items refl
