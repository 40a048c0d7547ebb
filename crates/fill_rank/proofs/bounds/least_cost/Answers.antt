use Rattle.std.proofs.Common.{◌≡◌, ◌≤◌, refl, subst, arith}
use Rattle.fill_tokens.specs.Prices.{place_cost}
use Rattle.fill_arena.proofs.Scan.{here}
use Rattle.fill_rank.proofs.LowerBounds.{bound_none, bound_step, bound_done}
use Rattle.fill_rank.proofs.bounds.least_cost.Goals as goal

pub loop-place-init : goal.loop-place-init
loop-place-init c = bound_none (place_cost c.args.prices.now) (λ y p. y ≡ p) c.args.places.now _

pub loop-place-preserved : goal.loop-place-preserved
loop-place-preserved c =
    let prices = c.args.prices.now in
    let xs = c.args.places.now in
    let x = c.place-item.result in
    bound_step (place_cost prices) (λ y p. y ≡ p) xs c.loop-place.place-index x (here xs c.loop-place.place-index x c.loop-place-test.true c.place-item.is) c.loop-place.least c.cost.result _
    (omega arith) (omega arith) c.loop-place.invariant (λ p e. subst (λ q. c.cost.result ≤ place_cost prices q) e (omega (arith, c.cost.ensures)))

pub returns : goal.returns
returns c = bound_done (place_cost c.args.prices.now) (λ y p. y ≡ p) c.args.places.now _ (λ p h. (p, (h.0, h.1), refl)) c.loop-place.place-index c.loop-place-test.false c.loop-place.least c.loop-place.invariant
