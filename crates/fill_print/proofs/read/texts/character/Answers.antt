use Rattle.std.proofs.Common.{◌∷◌, [], ap, ◌∙◌}
use Rattle.std.proofs.lemmas.Result.{err_from_is_err_and}
use Rattle.fill_print.specs.Utf8.{High}
use Rattle.fill_print.specs.Texts.{CharStep, Escaped}
use Rattle.fill_print.proofs.Chains.{fails_in, exit, via, via_halts, in_first, both, done, gives_spelled}
use Rattle.fill_print.proofs.Quotes.{step_empty, end_takes, end_halts, char_takes, step_high, behind_takes, behind_halts}
use Rattle.fill_print.proofs.read.texts.character.Goals as goal

pub returns-then-may_end : goal.returns-then-may_end
returns-then-may_end c = end_takes c.args.may_end c.args.bytes.now c.in-Some.after.now c.if-may_end.true (c.in-Some.ensures ∙ ap (λ x. x ∷ c.in-Some.after.now) c.if-byte-eq39.true)

pub returns-else-may_end : goal.returns-else-may_end
returns-else-may_end c = end_halts c.args.may_end c.args.bytes.now c.in-Some.after.now c.if-may_end.false (c.in-Some.ensures ∙ ap (λ x. x ∷ c.in-Some.after.now) c.if-byte-eq39.true)

pub returns-in_err-c-in-Some : goal.returns-in_err-c-in-Some
returns-in_err-c-in-Some c =
    let p = err_from_is_err_and c.from_residual.result c.from_residual.ensures.1 in
    rw (p.1, p.2) (fails_in Escaped (CharStep c.args.may_end) c.in-Some.after.now c.args.bytes.now c.in_err-c-in-Some.field-0.0
    (λ left h. behind_halts c.args.may_end c.args.bytes.now c.in-Some.after.now left (c.in-Some.ensures ∙ ap (λ x. x ∷ c.in-Some.after.now) c.if-byte-eq92.true) h) c.in_err-c-in-Some.ensures)

pub returns-then-byte-eq92 : goal.returns-then-byte-eq92
returns-then-byte-eq92 c = behind_takes c.args.may_end c.in_ok-c-in-Some.c c.args.bytes.now c.in-Some.after.now c.in_ok-c-in-Some.rest.now (c.in-Some.ensures ∙ ap (λ x. x ∷ c.in-Some.after.now) c.if-byte-eq92.true) c.in_ok-c-in-Some.ensures

pub returns-in_err-code-in-Some : goal.returns-in_err-code-in-Some
returns-in_err-code-in-Some c = exit _ _ _ _ High c.args.bytes.now c.from_residual-in_err-code-in-Some.ensures.1 c.in_err-code-in-Some.ensures
    (λ left h. via_halts (step_high c.args.may_end c.in-Some.byte c.if-byte-ge128.true) c.in-Some.ensures (in_first h (λ c. gives_spelled _)))

pub scalar-requires : goal.scalar-requires
scalar-requires c = (c.in_ok-code-in-Some.ensures.spelled []).1.0

pub returns-then-byte-ge128 : goal.returns-then-byte-ge128
returns-then-byte-ge128 c = rw c.scalar.ensures (via (step_high c.args.may_end c.in-Some.byte c.if-byte-ge128.true) (both c.in_ok-code-in-Some.ensures done))

pub returns-in-None : goal.returns-in-None
returns-in-None c = step_empty c.args.may_end c.args.bytes.now c.in-None.ensures

pub returns-else-byte-ge128 : goal.returns-else-byte-ge128
returns-else-byte-ge128 c = rw c.from.ensures (char_takes c.args.may_end c.in-Some.byte c.args.bytes.now c.in-Some.after.now c.if-byte-ge128.false c.if-byte-eq39.false c.if-byte-eq92.false c.in-Some.ensures)
