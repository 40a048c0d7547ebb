use Rattle.std.proofs.Common.{◌≡◌, ℕ, ◌≤◌, ◌<◌, true, get_or}
use Rattle.fill_tokens.specs.Kind.{run_has}
use Rattle.fill_tokens.proofs.spans.run_end.Given as goal

abbrev pub invariant-loop-i : goal.invariant-loop-i
invariant-loop-i l = (j : ℕ) → l.a ≤ j → j < l.i → run_has l.class (get_or l.t j 0) ≡ true
