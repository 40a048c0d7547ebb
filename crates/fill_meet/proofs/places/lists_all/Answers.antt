use Rattle.std.proofs.Common.{Some, refl, ap, ◌∙◌}
use Rattle.fill_arena.specs.Contents.{In}
use Rattle.fill_meet.proofs.Lists.{all_start, all_more, here}
use Rattle.fill_meet.proofs.places.lists_all.Goals as goal

pub loop-k-init : goal.loop-k-init
loop-k-init c = all_start (λ p. In p c.args.xs.now) c.args.places.now

pub loop-k-preserved-then-are_same : goal.loop-k-preserved-then-are_same
loop-k-preserved-then-are_same c =
    all_more (λ p. In p c.args.xs.now) _ _ _ (here _ _ _ c.if-i-places.false c.index-places-i.is) c.loop-k.invariant (c.loop-k.k, here _ _ _ c.loop-k-test.true c.index-xs-k.is ∙ ap Some (c.if-are_same.ensures refl))
