use Rattle.std.proofs.Common.{◌≡◌, ◌<◌, ℕ, slice_get, Some}
use Rattle.fill_guard.specs.declared.candidates.Candidate.{Candidate}
use Rattle.fill_guard.proofs.candidates.has_set.Given as goal

abbrev pub invariant-loop-i : goal.invariant-loop-i
invariant-loop-i l = (j : ℕ) (k : Candidate) → j < l.i → slice_get l.candidates j ≡ Some k → k.outside ≡ l.outside → ⊥
