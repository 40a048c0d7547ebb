use Rattle.std.proofs.Common.{◌≡◌}
use Rattle.fill_tokens.specs.Place.{place_cmp}
use Rattle.fill_tokens.specs.Prices.{place_cost}
use Rattle.fill_arena.specs.Contents.{SomeBelow}
use Rattle.fill_best.specs.Cheapest.{TakesIn}
use Rattle.fill_best.proofs.places.first_places.Given as goal

abbrev pub invariant-loop-place : goal.invariant-loop-place
invariant-loop-place l = TakesIn (place_cost l.prices) place_cmp (λ a. SomeBelow l.place-index l.places (λ y. y ≡ a)) l.limit l.initial.ranking.items l.ranking.items
