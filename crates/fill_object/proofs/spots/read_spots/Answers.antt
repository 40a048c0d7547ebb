use Rattle.std.proofs.Common.{◌≡◌, Some, refl, sym, ap, ◌∙◌}
use Rattle.fill_arena.specs.Contents.{In}
use Rattle.fill_arena.proofs.Scan.{here}
use Rattle.fill_object.specs.Kinds.{spots_in}
use Rattle.fill_object.proofs.Gains.{scan_none, scan_more, scan_done, gains_same, leasts_from}
use Rattle.fill_object.proofs.KindLaws.{spots_laws, place_is, gains_spot}
use Rattle.fill_object.proofs.spots.read_spots.Goals as goal

pub loop-place-init : goal.loop-place-init
loop-place-init c = scan_none (spots_in c.args.prices.now c.args.text.now) (spots_laws c.args.prices.now c.args.text.now) (λ y p. p ≡ y) c.args.places.now c.new-spots.result.items

pub loop-place-preserved : goal.loop-place-preserved
loop-place-preserved c =
    let t = c.args.text.now in
    let places = c.args.places.now in
    let i = c.loop-place.place-index in
    let x = c.place-item.result in
    scan_more (spots_in c.args.prices.now t) (spots_laws c.args.prices.now t) (λ y p. p ≡ y) places i x (here places i x c.loop-place-test.true c.place-item.is) c.new-spots.result.items c.loop-place.spots.items c.take.new.rivals.items
    c.loop-place.invariant (gains_spot c.args.prices.now t (record { place = x; at = c.place_value-at.result }) c.loop-place.spots.items c.take.new.rivals.items c.in_ok-take.ensures (place_is x t c.place_value-at.result c.place_value-at.ensures))

pub returns : goal.returns
returns c =
    let t = c.args.text.now in
    let places = c.args.places.now in
    let old = c.new-spots.result.items in
    let new = c.loop-place.spots.items in
    leasts_from (spots_in c.args.prices.now t) (spots_laws c.args.prices.now t) (λ p. In p places) old new c.new-spots.ensures.items
    (gains_same (spots_in c.args.prices.now t) (spots_laws c.args.prices.now t) _ (λ p. In p places) (λ p h. (h.1.0, h.1.1 ∙ ap Some (sym h.2))) (λ p h. (p, h, refl)) old new
    (scan_done (spots_in c.args.prices.now t) (spots_laws c.args.prices.now t) (λ y p. p ≡ y) places c.loop-place.place-index c.loop-place-test.false old new c.loop-place.invariant))
