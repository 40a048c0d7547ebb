use Rattle.std.proofs.Common.{◌≡◌, ◌++◌, take, arith, ap, ◌∙◌}
use Rattle.std.proofs.lemmas.Grind.{common_steps}
use Rattle.fill_print.proofs.Chains.{plain_ends, plain_differs, plain_takes, goes_on}
use Rattle.fill_print.proofs.read.bytes.word.Goals as goal

pub returns-in-None : goal.returns-in-None
returns-in-None c = plain_ends c.args.word.now c.args.bytes.now c.loop-c.rest.now c.loop-c.c-index c.loop-c-test.true c.loop-c.invariant c.in-None.ensures

pub returns-then-byte-c : goal.returns-then-byte-c
returns-then-byte-c c = plain_differs c.args.word.now c.args.bytes.now c.loop-c.rest.now c.in-Some.after.now c.loop-c.c-index c.in-Some.byte c.loop-c-test.true c.loop-c.invariant c.in-Some.ensures c.if-byte-c.true

pub loop-c-preserved : goal.loop-c-preserved
loop-c-preserved c = goes_on c.args.word.now c.args.bytes.now c.loop-c.rest.now c.in-Some.after.now c.loop-c.c-index c.in-Some.byte c.loop-c-test.true c.loop-c.invariant c.in-Some.ensures c.if-byte-c.false

pub returns : goal.returns
returns c =
    let all : take c.loop-c.c-index c.args.word.now ≡ c.args.word.now = grind (arith, common_steps) in
    plain_takes c.args.word.now c.args.bytes.now c.loop-c.rest.now (c.loop-c.invariant ∙ ap (λ x. x ++ c.loop-c.rest.now) all)
