use Rattle.std.proofs.Common.{◌≤◌}
use Rattle.fill_tokens.specs.Prices.{place_cost}
use Rattle.fill_object.proofs.Below.{EachBelow}
use Rattle.fill_object.proofs.costs.least_place_cost.Given as goal

abbrev pub invariant-loop-i : goal.invariant-loop-i
invariant-loop-i l = EachBelow (λ p. l.least ≤ place_cost l.prices p) l.places l.i
