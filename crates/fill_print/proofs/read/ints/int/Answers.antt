use Rattle.std.proofs.Common.{◌∷◌, ap, ◌∙◌, subst, sym, true}
use Rattle.fill_print.specs.Reading.{Reads}
use Rattle.fill_print.specs.Ints.{Int}
use Rattle.fill_print.proofs.Chains.{reads_via}
use Rattle.fill_print.proofs.Signs.{int_negative, int_zero, int_positive, int_empty, int_no_zero}
use Rattle.fill_print.proofs.read.ints.int.Goals as goal

pub returns-in-None : goal.returns-in-None
returns-in-None c = int_empty c.args.may_be_zero c.args.last c.args.bytes.now c.in-None.ensures

pub returns-then-byte-eq45 : goal.returns-then-byte-eq45
returns-then-byte-eq45 c = reads_via (λ x. x.0) (λ x. x.1.now) 45 c.args.bytes.now c.in-Some._after.now c.negative.result (int_negative c.args.may_be_zero c.args.last) (c.in-Some.ensures ∙ ap (λ x. x ∷ c.in-Some._after.now) c.if-byte-eq45.true) c.negative.ensures

pub returns-then-not-may_be_zero : goal.returns-then-not-may_be_zero
returns-then-not-may_be_zero c = int_no_zero c.args.last c.args.may_be_zero c.args.bytes.now c.in-Some._after.now c.if-not-may_be_zero.true (c.in-Some.ensures ∙ ap (λ x. x ∷ c.in-Some._after.now) c.if-byte-eq48.true)

pub returns-then-byte-eq48 : goal.returns-then-byte-eq48
returns-then-byte-eq48 c =
    let read : Reads (λ x. x.0) (λ x. x.1.now) (Int true c.args.last) c.args.bytes.now c.zero.result = reads_via (λ x. x.0) (λ x. x.1.now) 48 c.args.bytes.now c.in-Some._after.now c.zero.result (int_zero c.args.last) (c.in-Some.ensures ∙ ap (λ x. x ∷ c.in-Some._after.now) c.if-byte-eq48.true) c.zero.ensures in
    subst (λ b. Reads (λ x. x.0) (λ x. x.1.now) (Int b c.args.last) c.args.bytes.now c.zero.result) (sym c.if-not-may_be_zero.false) read

pub returns-else-byte-eq48 : goal.returns-else-byte-eq48
returns-else-byte-eq48 c = reads_via (λ x. x.0) (λ x. x.1.now) c.in-Some.byte c.args.bytes.now c.in-Some._after.now c.positive.result (int_positive c.args.may_be_zero c.args.last c.in-Some.byte c.if-byte-eq45.false c.if-byte-eq48.false) c.in-Some.ensures c.positive.ensures
