use Rattle.std.proofs.Common.{refl}
use Rattle.fill_doubt.proofs.Gains.{have_there, have_pushed}
use Rattle.fill_doubt.proofs.answers.Texts.put.Goals as goal

pub returns-then-has : goal.returns-then-has
returns-then-has c = have_there (λ x. x.now) c.args.self.now.texts.items c.args.self.now.none c.args.text.now (c.has.ensures.0 c.if-has.true)

pub returns-in-Ok : goal.returns-in-Ok
returns-in-Ok c = have_pushed (λ x. x.now) c.args.self.now.texts.items _ c.args.self.now.none _ _ c.in-Ok.ensures.items refl
