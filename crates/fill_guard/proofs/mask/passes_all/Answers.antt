use Rattle.std.proofs.Common.{arith, refl, subst}
use Rattle.std.specs.List.{All}
use Rattle.std.proofs.lemmas.List.{take_all}
use Rattle.std.proofs.lemmas.List.Elements.{All-more}
use Rattle.fill_guard.specs.Read.{Passes}
use Rattle.fill_guard.proofs.mask.passes_all.Goals as goal

pub loop-count-preserved : goal.loop-count-preserved
loop-count-preserved c = All-more (Passes c.args.l.now) c.args.counts.now c.loop-count.count-index 0 (omega arith) c.loop-count.invariant
    (c.passes.ensures.0 c.if-not-passes.false)

pub returns : goal.returns
returns c = (λ h. subst (All (Passes c.args.l.now)) (take_all c.loop-count.count-index c.args.counts.now (omega arith)) c.loop-count.invariant, λ h. refl)
