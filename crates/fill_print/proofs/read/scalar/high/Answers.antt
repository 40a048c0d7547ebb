use Rattle.std.proofs.Common.{inl, inr, arith}
use Rattle.fill_print.proofs.Chains.{reads_via}
use Rattle.fill_print.proofs.Encoding.{high_two, high_three, high_four, high_empty, high_halts}
use Rattle.fill_print.proofs.read.scalar.high.Goals as goal

pub returns-in-None : goal.returns-in-None
returns-in-None c = high_empty c.args.bytes.now c.in-None.ensures

pub returns-then-lead-lt194 : goal.returns-then-lead-lt194
returns-then-lead-lt194 c = high_halts c.in-Some.lead c.args.bytes.now c.in-Some._after.now c.in-Some.ensures (inl c.if-lead-lt194.true)

pub returns-then-lead-lt224 : goal.returns-then-lead-lt224
returns-then-lead-lt224 c = reads_via (λ x. x.0) (λ x. x.1.now) c.in-Some.lead c.args.bytes.now c.in-Some._after.now c.two.result (high_two c.in-Some.lead (omega arith) (omega arith)) c.in-Some.ensures c.two.ensures

pub returns-then-lead-lt240 : goal.returns-then-lead-lt240
returns-then-lead-lt240 c = reads_via (λ x. x.0) (λ x. x.1.now) c.in-Some.lead c.args.bytes.now c.in-Some._after.now c.three.result (high_three c.in-Some.lead (omega arith) (omega arith)) c.in-Some.ensures c.three.ensures

pub returns-then-lead-lt245 : goal.returns-then-lead-lt245
returns-then-lead-lt245 c = reads_via (λ x. x.0) (λ x. x.1.now) c.in-Some.lead c.args.bytes.now c.in-Some._after.now c.four.result (high_four c.in-Some.lead (omega arith) (omega arith)) c.in-Some.ensures c.four.ensures

pub returns-else-lead-lt245 : goal.returns-else-lead-lt245
returns-else-lead-lt245 c = high_halts c.in-Some.lead c.args.bytes.now c.in-Some._after.now c.in-Some.ensures (inr (omega arith))
