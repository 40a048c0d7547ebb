use Rattle.std.proofs.Common.{drop, sym, subst, arith}
use Rattle.std.proofs.lemmas.Slice.{between_to_end}
use Rattle.fill_build.specs.Hits.{GoTogether, HitsText}
use Rattle.fill_build.proofs.Finds.{hits_skip, hits_put}
use Rattle.fill_build.proofs.hits.put_hits.Goals as goal

pub loop-at-preserved-then-run-eq0 : goal.loop-at-preserved-then-run-eq0
loop-at-preserved-then-run-eq0 c =
    let rest = subst (λ l. GoTogether l c.args.rest.now c.common-run.result) (between_to_end c.args.text.now c.loop-at.at _ (omega arith)) c.common-run.ensures in
    hits_skip c.args.k c.args.text.now c.args.rest.now c.loop-at.at c.args.hits.now.items c.loop-at.hits.items c.loop-at.invariant
    (subst (GoTogether (drop c.loop-at.at c.args.text.now) c.args.rest.now) c.if-run-eq0.true rest)

pub loop-at-preserved : goal.loop-at-preserved
loop-at-preserved c =
    let rest = subst (λ l. GoTogether l c.args.rest.now c.common-run.result) (between_to_end c.args.text.now c.loop-at.at _ (omega arith)) c.common-run.ensures in
    subst (HitsText c.args.k c.args.text.now c.args.rest.now _ c.args.hits.now.items) (sym c.in_ok-push.ensures.items)
    (hits_put c.args.k c.args.text.now c.args.rest.now c.loop-at.at c.common-run.result c.args.hits.now.items c.loop-at.hits.items c.loop-at.invariant rest (omega arith))
