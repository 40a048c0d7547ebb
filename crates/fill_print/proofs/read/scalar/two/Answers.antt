use Rattle.std.proofs.Common.{arith}
use Rattle.fill_print.specs.Utf8.{Ranged}
use Rattle.fill_print.proofs.Chains.{exit, both, in_first, in_rest, both_spelled, gives_spelled, done}
use Rattle.fill_print.proofs.Encoding.{ranged_one, ranged_spelled}
use Rattle.fill_print.proofs.read.scalar.two.Goals as goal

pub returns-in_err-a : goal.returns-in_err-a
returns-in_err-a c = exit _ _ _ _ (Ranged (194) (223)) c.args.bytes.now c.from_residual.ensures.1 c.in_err-a.ensures (λ left h. in_first h (λ a. both_spelled (ranged_spelled (128) (191) (omega arith)) (λ b. gives_spelled _)))

pub returns-in_err-b : goal.returns-in_err-b
returns-in_err-b c = exit _ _ _ _ (Ranged (128) (191)) c.in_ok-a.rest.now c.from_residual-in_err-b.ensures.1 c.in_err-b.ensures (λ left h. in_rest (ranged_one (194) (223)) c.in_ok-a.ensures (in_first h (λ b. gives_spelled _)))

pub returns : goal.returns
returns c = both c.in_ok-a.ensures (both c.in_ok-b.ensures (done))
