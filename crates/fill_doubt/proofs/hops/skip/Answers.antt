use Rattle.std.proofs.Common.{arith}
use Rattle.fill_doubt.proofs.Hopped.{item}
use Rattle.fill_doubt.proofs.hops.skip.Goals as goal

pub returns-then-set-i-clause-less : goal.returns-then-set-i-clause-less
returns-then-set-i-clause-less c = c.loop-i.invariant

pub returns-then-set-i-clause-here : goal.returns-then-set-i-clause-here
returns-then-set-i-clause-here c = λ x at. let e = item c.args.set.now c.loop-i.i x 0 at in let t = c.if-set-i.true in omega arith
