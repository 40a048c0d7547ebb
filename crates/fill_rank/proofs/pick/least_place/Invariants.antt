use Rattle.std.proofs.Common.{◌≡◌}
use Rattle.fill_tokens.specs.Prices.{place_cost}
use Rattle.fill_rank.proofs.Scan.{BestBelow}
use Rattle.fill_rank.proofs.pick.least_place.Given as goal

abbrev pub invariant-loop-i : goal.invariant-loop-i
invariant-loop-i l = BestBelow l.prices l.places l.i l.best × (l.cost ≡ place_cost l.prices l.best)
