-- Lists of numbers within a longer one.
use Rattle.std.specs.Prelude.{◌≡◌, ℕ, ◌<◌, ◌≤◌, List, length, Some, slice_get}
use Rattle.fill_meet.specs.declared.runs.Run.{Run}

-- the earlier list is the beginning of the later one
pub record Grows {A : Type 0} (old new : List A) : Type 0 where
  pub extends : (k : ℕ) (x : A) → slice_get old k ≡ Some x → slice_get new k ≡ Some x
  pub long : length old ≤ length new

-- the number stands in the list from a place on
pub record HasFrom (numbers : List ℕ) (start n : ℕ) : Type 0 where
  pub place : ℕ
  pub past : start ≤ place
  pub here : slice_get numbers place ≡ Some n

-- the number stands in the run
pub record HasIn (numbers : List ℕ) (run : Run) (n : ℕ) : Type 0 where
  pub place : ℕ
  pub past : run.start ≤ place
  pub before : place < run.end
  pub here : slice_get numbers place ≡ Some n
