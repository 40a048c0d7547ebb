use Rattle.std.proofs.Common.{◌≡◌}
use Rattle.fill_tokens.specs.Prices.{place_cost}
use Rattle.fill_arena.specs.Contents.{SomeBelow}
use Rattle.fill_rank.specs.LowerBounds.{IsLowerBound}
use Rattle.fill_rank.proofs.bounds.least_cost.Given as goal

abbrev pub invariant-loop-place : goal.invariant-loop-place
invariant-loop-place l = IsLowerBound (place_cost l.prices) (λ p. SomeBelow l.place-index l.places (λ y. y ≡ p)) l.least
