-- Classes that are equal by their flags.
use Rattle.std.proofs.Common.{◌≡◌, Bool, true, false, ◌&&◌, IsTrue, refl}
use mathlib.Core.Bool.{beq}
use Rattle.fill_text.specs.declared.class.Class.{Class}

both_true : (a b : Bool) → IsTrue (a && b) → IsTrue a × IsTrue b
both_true true b h = (refl, h)
both_true false b h = absurd (let e : false ≡ true = h in cc)

same_flag : (a b : Bool) → IsTrue (beq a b) → a ≡ b
same_flag true true h = refl
same_flag false false h = refl
same_flag true false h = absurd (let e : false ≡ true = h in cc)
same_flag false true h = absurd (let e : false ≡ true = h in cc)

pub same_class : (k l : Class) → IsTrue (beq k.digit l.digit && (beq k.upper l.upper && (beq k.lower l.lower && (beq k.alpha l.alpha && beq k.space l.space)))) → k ≡ l
same_class k l h =
    let digit = both_true (beq k.digit l.digit) (beq k.upper l.upper && (beq k.lower l.lower && (beq k.alpha l.alpha && beq k.space l.space))) h in
    let upper = both_true (beq k.upper l.upper) (beq k.lower l.lower && (beq k.alpha l.alpha && beq k.space l.space)) digit.1 in
    let lower = both_true (beq k.lower l.lower) (beq k.alpha l.alpha && beq k.space l.space) upper.1 in
    let alpha = both_true (beq k.alpha l.alpha) (beq k.space l.space) lower.1 in
    λ i. record {
      digit = same_flag k.digit l.digit digit.0 i;
      upper = same_flag k.upper l.upper upper.0 i;
      lower = same_flag k.lower l.lower lower.0 i;
      alpha = same_flag k.alpha l.alpha alpha.0 i;
      space = same_flag k.space l.space alpha.1 i;
    }
