use Rattle.std.proofs.Common.{◌≡◌, ◌+◌, ◌*◌, ◌/◌, ◌%◌, ◌<◌, get_or, length, sym, ap, ◌∙◌, arith, inl, inr}
use Rattle.std.proofs.lemmas.Bool.{cases_eq}
use Rattle.std.proofs.lemmas.Grind.{get_or_default_zero}
use Rattle.std.proofs.lemmas.Nat.Bits.{bit_at-zero}
use Rattle.std.specs.Int.{bit_at}
use Rattle.fill_meet.proofs.bits.Bits.has_some.Goals as goal

pub loop-k-preserved : goal.loop-k-preserved
loop-k-preserved c = λ v lt p.
    let b = c.args.self.now in
    let k = c.loop-k.k in
    let test = c.loop-k-test.true in
    let fits = c.requires in
    elim (cases_eq (v / 64) c.loop-k.k) [
      | inl e ↦
          let within : c.args.row * c.args.self.now.per_row + c.loop-k.k < length c.args.self.now.words.items = omega arith in
          let word = c.index.ensures ∙ get_or_default_zero b.words.items (c.args.row * b.per_row + c.loop-k.k) c.index.result.now within in
          let one : bit_at c.index.result.now (v % 64) ≡ 1 = ap (λ w. bit_at w (v % 64)) (word ∙ ap (λ n. get_or b.words.items (c.args.row * b.per_row + n) 0) (sym e)) ∙ p in
          let none : bit_at c.index.result.now (v % 64) ≡ bit_at 0 (v % 64) = ap (λ w. bit_at w (v % 64)) c.if-index-ne0.false in
          let zero = bit_at-zero (v % 64) in
          omega arith
      | inr other ↦ c.loop-k.invariant v (omega arith) p
    ]
