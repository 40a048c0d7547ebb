use Rattle.std.proofs.Common.{◌≡◌, ◌<◌, ℕ, slice_get, Some, true}
use Rattle.fill_places.proofs.entry.any_marked.Given as goal

abbrev pub invariant-loop-i : goal.invariant-loop-i
invariant-loop-i l = (j k : ℕ) → j < l.i → slice_get l.ks j ≡ Some k → slice_get l.at k ≡ Some true → ⊥
