use Rattle.std.proofs.Common.{◌<◌, ◌≤◌}
use Rattle.fill_tokens.specs.Cuts.{IsRisingListOf}
use Rattle.fill_doubt.proofs.hops.positions.Given as goal

abbrev pub invariant-loop-k : goal.invariant-loop-k
invariant-loop-k l = record { within : l.k ≤ l.n; positions : IsRisingListOf (λ j. j < l.k) l.ks.items }
