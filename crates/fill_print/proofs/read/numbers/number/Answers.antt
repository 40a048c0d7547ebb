use Rattle.std.proofs.Common.{◌≡◌, ◌∷◌, inl, inr, arith, ap, ◌∙◌}
use Rattle.fill_print.proofs.Decimals.{blocks_at, number_halts, number_ends, number_takes, number_more}
use Rattle.fill_print.proofs.read.numbers.number.Goals as goal

pub returns-then-value-ne0 : goal.returns-then-value-ne0
returns-then-value-ne0 c = number_takes c.args.limit c.args.last c.loop-byte.value c.args.bytes.now c.loop-byte.rest.now c.in-Some.after.now (omega (arith, c.if-value-ne0.true)) c.loop-byte.invariant.within c.loop-byte.invariant.read
    (c.in-Some.ensures ∙ ap (λ x. x ∷ c.in-Some.after.now) c.if-byte-last.true)

pub returns-in_default-with_digit : goal.returns-in_default-with_digit
returns-in_default-with_digit c =
    let zero_at : c.in-Some.byte ≡ c.args.last → c.loop-byte.value ≡ 0 = elim c.else-byte-last.either [ inl h ↦ λ e. h.1 | inr h ↦ λ e. absurd (h e) ] in
    number_halts c.args.limit c.args.last c.loop-byte.value c.args.bytes.now c.loop-byte.rest.now c.requires.limit (omega arith) c.requires.last c.loop-byte.invariant.within c.loop-byte.invariant.read
    (blocks_at c.args.limit c.args.last c.loop-byte.value c.in-Some.byte c.loop-byte.rest.now c.in-Some.after.now c.in-Some.ensures zero_at c.in_default-with_digit.ensures)

pub loop-byte-preserved : goal.loop-byte-preserved
loop-byte-preserved c =
    let p = c.in-Some-with_digit.ensures in
    record {
      read = number_more c.args.limit c.loop-byte.value c.in-Some.byte c.in-Some-with_digit.next c.args.bytes.now c.loop-byte.rest.now c.in-Some.after.now (omega arith) c.loop-byte.invariant.read c.in-Some.ensures p;
      within = p.within;
    }

pub returns : goal.returns
returns c = number_ends c.args.limit c.args.last c.loop-byte.value c.args.bytes.now c.loop-byte.rest.now c.requires.limit (omega arith) c.requires.last c.loop-byte.invariant.within c.loop-byte.invariant.read c.in_default.ensures
