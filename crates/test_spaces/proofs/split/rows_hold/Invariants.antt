use Rattle.std.proofs.Common.{◌≡◌, ◌≤◌, ◌-◌, List, ℕ, Some, sum, length}
use Rattle.std.specs.Prelude.{slice_get}
use Rattle.fill_split.specs.Standing.{StandsBy}
use Rattle.test_spaces.proofs.split.rows_hold.Given as goal

abbrev pub invariant-loop-i : goal.invariant-loop-i
invariant-loop-i g l =
    (items : List ℕ) × StandsBy (λ k xs. (slice_get l.sums k ≡ Some (sum xs)) × (sum xs ≤ 10)) (λ xs. sum xs ≤ 10) (λ xs n. n ≡ 10 - sum xs) items l.held.folds × (length items ≡ l.held.count)
