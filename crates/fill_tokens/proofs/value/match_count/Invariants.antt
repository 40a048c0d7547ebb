use Rattle.std.proofs.Common.{◌≤◌}
use Rattle.fill_tokens.specs.Span.{Begins}
use Rattle.fill_tokens.specs.Value.{IsCount}
use Rattle.fill_tokens.proofs.value.match_count.Given as goal

abbrev pub invariant-loop-k : goal.invariant-loop-k
invariant-loop-k l = record { few : l.count ≤ l.k; counted : IsCount (Begins l.r l.t) l.k l.count }
