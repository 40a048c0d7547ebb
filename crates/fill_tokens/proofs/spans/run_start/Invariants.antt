use Rattle.std.proofs.Common.{◌≡◌, ℕ, ◌≤◌, ◌<◌, true, get_or}
use Rattle.fill_tokens.specs.Kind.{run_has}
use Rattle.fill_tokens.proofs.spans.run_start.Given as goal

abbrev pub invariant-loop-a : goal.invariant-loop-a
invariant-loop-a l = (l.a ≤ l.b) × ((j : ℕ) → l.a ≤ j → j < l.b → run_has l.class (get_or l.t j 0) ≡ true)

abbrev pub decreases-loop-a : goal.decreases-loop-a
decreases-loop-a l = l.a
