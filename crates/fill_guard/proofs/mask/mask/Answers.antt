use Rattle.std.proofs.Common.{◌<◌, ◌+◌, ℕ, arith, length, take, sym, subst}
use Rattle.std.proofs.lemmas.Bool.{iff_false}
use Rattle.fill_guard.specs.Read.{Passes}
use Rattle.fill_guard.specs.Candidate.{IsMask}
use Rattle.fill_guard.proofs.MaskLaws.{mask_more_set, mask_more_not}
use Rattle.fill_guard.proofs.mask.mask.Goals.{then-passes, else-passes}
use Rattle.fill_guard.proofs.mask.mask.Goals as goal

pub loop-i-preserved : goal.loop-i-preserved
loop-i-preserved c =
    let counts = c.args.counts.now in
    let P : ℕ → Type 0 = Passes c.args.l.now in
    let lt : c.loop-i.i < length c.args.counts.now = omega arith in
    let small : c.loop-i.i < 64 = omega arith in
    elim c.if-passes.branch [
      | then-passes w ↦
          subst (λ (m : ℕ). IsMask P (take (c.loop-i.i + 1) counts) m) (sym w.mask-is)
          (mask_more_set P counts c.loop-i.i c.loop-i.mask lt small c.loop-i.invariant (c.passes.ensures.0 w.if-passes.true))
      | else-passes w ↦
          subst (λ (m : ℕ). IsMask P (take (c.loop-i.i + 1) counts) m) (sym w.mask-is)
          (mask_more_not P counts c.loop-i.i c.loop-i.mask lt small c.loop-i.invariant (iff_false c.passes.ensures w.if-passes.false))
    ]
