use Rattle.std.proofs.Common.{◌≡◌, ◌≤◌, ◌+◌, ◌-◌, ℕ, length, subst, arith}
use Rattle.std.proofs.lemmas.Bool.{iff_false}
use Rattle.fill_tokens.specs.Span.{IsCut}
use Rattle.fill_tokens.specs.Value.{IsCount}
use Rattle.fill_tokens.proofs.CountLaws.{no, count_mono}
use Rattle.fill_tokens.proofs.value.cut_from_right.Goals as goal

pub loop-k-preserved : goal.loop-k-preserved
loop-k-preserved c =
    let n = length c.args.t.now in
    let Cut : ℕ → Type 0 = IsCut c.args.left.now c.args.right.now c.args.t.now in
    let i = n + 1 - c.loop-k.k in
    let here : n - i ≡ c.loop-k.k - 1 = omega arith in
    let next : i + 1 ≡ n + 1 - (c.loop-k.k - 1) = omega arith in
    let uncut = iff_false c.is_cut.ensures c.if-is_cut.false in
    record {
      few = c.loop-k.invariant.few;
      counted = subst (λ m. IsCount (λ j. Cut (n - j)) m c.loop-k.passed) next
          (no (λ j. Cut (n - j)) i c.loop-k.passed (λ cut. uncut (subst Cut here cut)) c.loop-k.invariant.counted);
    }

pub returns : goal.returns
returns c = λ k h.
    let n = length c.args.t.now in
    let enough : c.args.number ≤ c.loop-k.passed =
    count_mono (λ i. IsCut c.args.left.now c.args.right.now c.args.t.now (n - i)) (n - k + 1) (n + 1 - c.loop-k.k) c.args.number c.loop-k.passed
    (omega arith) h.2 c.loop-k.invariant.counted in
    omega arith
