use Rattle.std.proofs.Common.{◌≡◌}
use Rattle.fill_tokens.specs.Place.{place_cmp}
use Rattle.fill_tokens.specs.Prices.{place_cost}
use Rattle.fill_tokens.proofs.PlaceLaws.{place_total, exact_places}
use Rattle.fill_arena.specs.Contents.{In}
use Rattle.fill_arena.proofs.Scan.{here}
use Rattle.fill_best.proofs.Standing.{listed_place, place_listed}
use Rattle.fill_best.proofs.Takes.{scan_more, scan_done, takes_all, takes_one}
use Rattle.fill_best.proofs.places.first_places.Goals as goal

pub loop-place-preserved : goal.loop-place-preserved
loop-place-preserved c =
    let places = c.args.places.now in
    let i = c.loop-place.place-index in
    let x = c.place-item.result in
    let old = c.new-ranking.result.items in
    let mid = c.loop-place.ranking.items in
    let new = c.put.new.ranking.items in
    scan_more (place_cost c.args.prices.now) place_cmp place_total exact_places c.args.limit (λ y a. y ≡ a) places i x old mid new (here places i x c.loop-place-test.true c.place-item.is) c.loop-place.invariant
    (takes_one (place_cost c.args.prices.now) place_cmp place_total exact_places c.args.limit x c.cost.result mid new c.cost.ensures c.in_ok-put.ensures.first)

pub returns : goal.returns
returns c =
    let places = c.args.places.now in
    let old = c.new-ranking.result.items in
    let new = c.loop-place.ranking.items in
    takes_all (place_cost c.args.prices.now) place_cmp place_total exact_places c.args.limit (λ p. In p places) old new c.new-ranking.ensures.items
    (scan_done (place_cost c.args.prices.now) place_cmp place_total exact_places c.args.limit (λ y a. y ≡ a) places (λ p. In p places) c.loop-place.place-index old new
    (listed_place places) (place_listed places) c.loop-place-test.false c.loop-place.invariant)
