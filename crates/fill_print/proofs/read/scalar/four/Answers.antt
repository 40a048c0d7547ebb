use Rattle.std.proofs.Common.{arith}
use Rattle.fill_print.specs.Utf8.{Ranged, low_4, high_4}
use Rattle.fill_print.proofs.Chains.{exit, both, in_first, in_rest, both_spelled, gives_spelled, done}
use Rattle.fill_print.proofs.Encoding.{ranged_one, ranged_spelled, low_high_4}
use Rattle.fill_print.proofs.read.scalar.four.Goals as goal

pub returns-in_err-a : goal.returns-in_err-a
returns-in_err-a c = exit _ _ _ _ (Ranged (240) (244)) c.args.bytes.now c.from_residual.ensures.1 c.in_err-a.ensures (λ left h. in_first h (λ a. both_spelled (ranged_spelled (low_4 a) (high_4 a) (low_high_4 a)) (λ b. both_spelled (ranged_spelled (128) (191) (omega arith)) (λ c. both_spelled (ranged_spelled (128) (191) (omega arith)) (λ d. gives_spelled _)))))

pub returns-in_err-b : goal.returns-in_err-b
returns-in_err-b c = exit _ _ _ _ (Ranged (low_4 c.in_ok-a.a) (high_4 c.in_ok-a.a)) c.in_ok-a.rest.now c.from_residual-in_err-b.ensures.1 c.in_err-b.ensures (λ left h. in_rest (ranged_one (240) (244)) c.in_ok-a.ensures (in_first h (λ b. both_spelled (ranged_spelled (128) (191) (omega arith)) (λ c. both_spelled (ranged_spelled (128) (191) (omega arith)) (λ d. gives_spelled _)))))

pub returns-in_err-c : goal.returns-in_err-c
returns-in_err-c c = exit _ _ _ _ (Ranged (128) (191)) c.in_ok-b.rest.now c.from_residual-in_err-c.ensures.1 c.in_err-c.ensures (λ left h. in_rest (ranged_one (240) (244)) c.in_ok-a.ensures (in_rest (ranged_one (low_4 c.in_ok-a.a) (high_4 c.in_ok-a.a)) c.in_ok-b.ensures (in_first h (λ c. both_spelled (ranged_spelled (128) (191) (omega arith)) (λ d. gives_spelled _)))))

pub returns-in_err-d : goal.returns-in_err-d
returns-in_err-d c = exit _ _ _ _ (Ranged (128) (191)) c.in_ok-c.rest.now c.from_residual-in_err-d.ensures.1 c.in_err-d.ensures (λ left h. in_rest (ranged_one (240) (244)) c.in_ok-a.ensures (in_rest (ranged_one (low_4 c.in_ok-a.a) (high_4 c.in_ok-a.a)) c.in_ok-b.ensures (in_rest (ranged_one (128) (191)) c.in_ok-c.ensures (in_first h (λ d. gives_spelled _)))))

pub returns : goal.returns
returns c = both c.in_ok-a.ensures (both c.in_ok-b.ensures (both c.in_ok-c.ensures (both c.in_ok-d.ensures (done))))
