use Rattle.std.proofs.Common.{refl}
use Rattle.fill_arena.proofs.Alike.{same_end}
use Rattle.fill_arena.proofs.same.same_atoms.Goals as goal

pub returns : goal.returns
returns c = ((λ _. same_end c.args.xs.now c.args.ys.now c.loop-i.i c.if-xs-ys.false c.loop-i-test.false c.loop-i.invariant), (λ _. refl))
