use Rattle.std.proofs.Common.{◌≡◌, Some, slice_get, refl, subst}
use Rattle.fill_arena.specs.Stands.{PlaceStands}
use Rattle.fill_arena.proofs.Scan.{here}
use Rattle.fill_object.specs.Kinds.{spots_in}
use Rattle.fill_object.specs.Leasts.{AreLeasts}
use Rattle.fill_object.proofs.spots.Spots.recall.Goals as goal

pub returns-then-is_of : goal.returns-then-is_of
returns-then-is_of c prices cs are =
    let x = c.spotted-item.result in
    let xs = c.as_slice-spotted-items.result.now in
    let i = c.loop-spotted.spotted-index in
    let at = subst (λ l. slice_get l i ≡ Some x) c.as_slice-spotted-items.ensures.value (here xs i x c.loop-spotted-test.true c.spotted-item.is) in
    subst (λ s. AreLeasts (spots_in prices c.args.text.now) (PlaceStands cs s) x.spots.value.items) (c.if-is_of.ensures.set refl)
    (subst (λ t. AreLeasts (spots_in prices t) (PlaceStands cs x.set) x.spots.value.items) (c.if-is_of.ensures.text refl) (are.each i x at))
