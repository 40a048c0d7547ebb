use Rattle.std.proofs.Common.{arith}
use Rattle.fill_print.specs.Utf8.{Ranged, low_3, high_3}
use Rattle.fill_print.proofs.Chains.{exit, both, in_first, in_rest, both_spelled, gives_spelled, done}
use Rattle.fill_print.proofs.Encoding.{ranged_one, ranged_spelled, low_high_3}
use Rattle.fill_print.proofs.read.scalar.three.Goals as goal

pub returns-in_err-a : goal.returns-in_err-a
returns-in_err-a c = exit _ _ _ _ (Ranged (224) (239)) c.args.bytes.now c.from_residual.ensures.1 c.in_err-a.ensures (λ left h. in_first h (λ a. both_spelled (ranged_spelled (low_3 a) (high_3 a) (low_high_3 a)) (λ b. both_spelled (ranged_spelled (128) (191) (omega arith)) (λ c. gives_spelled _))))

pub returns-in_err-b : goal.returns-in_err-b
returns-in_err-b c = exit _ _ _ _ (Ranged (low_3 c.in_ok-a.a) (high_3 c.in_ok-a.a)) c.in_ok-a.rest.now c.from_residual-in_err-b.ensures.1 c.in_err-b.ensures (λ left h. in_rest (ranged_one (224) (239)) c.in_ok-a.ensures (in_first h (λ b. both_spelled (ranged_spelled (128) (191) (omega arith)) (λ c. gives_spelled _))))

pub returns-in_err-c : goal.returns-in_err-c
returns-in_err-c c = exit _ _ _ _ (Ranged (128) (191)) c.in_ok-b.rest.now c.from_residual-in_err-c.ensures.1 c.in_err-c.ensures (λ left h. in_rest (ranged_one (224) (239)) c.in_ok-a.ensures (in_rest (ranged_one (low_3 c.in_ok-a.a) (high_3 c.in_ok-a.a)) c.in_ok-b.ensures (in_first h (λ c. gives_spelled _))))

pub returns : goal.returns
returns c = both c.in_ok-a.ensures (both c.in_ok-b.ensures (both c.in_ok-c.ensures (done)))
