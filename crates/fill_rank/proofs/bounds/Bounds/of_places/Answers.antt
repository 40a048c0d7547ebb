use Rattle.std.proofs.Common.{Some}
use Rattle.fill_rank.proofs.LowerBounds.{place_listed}
use Rattle.fill_rank.specs.declared.bounds.Bound.{Bound}
use Rattle.fill_rank.proofs.bounds.Bounds.of_places.Goals as goal

pub returns-in-Some-clause-least : goal.returns-in-Some-clause-least
returns-in-Some-clause-least c =
    let slot : Bound = record { set = c.args.s; cost = c.in-Some.cost } in
    let there = c.in-Some.ensures in
    c.requires.bounds there.0 (Some slot) there.1

pub returns-clause-bounds : goal.returns-clause-bounds
returns-clause-bounds c = c.keep.ensures c.args.prices.now c.args.arena.now c.requires.bounds (λ p h. c.least_cost-cost.ensures p (place_listed c.args.arena.now c.args.s c.places.result.now c.places.ensures p h))

pub returns-clause-least : goal.returns-clause-least
returns-clause-least c = λ p h. c.least_cost-cost.ensures p (place_listed c.args.arena.now c.args.s c.places.result.now c.places.ensures p h)
