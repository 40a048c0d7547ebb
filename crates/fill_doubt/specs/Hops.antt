-- Hops from the numbers of one list to those at the same places of another.
use Rattle.std.specs.Prelude.{◌≡◌, ℕ, ◌<◌, ◌≤◌, List, length, slice_get, Some, Contains}
use Rattle.fill_tokens.specs.Cuts.{IsRisingListOf}

-- the numbers before a place are less
abbrev pub AreLess : List ℕ → ℕ → ℕ → Type 0
AreLess set n k = (j x : ℕ) → j < n → slice_get set j ≡ Some x → x < k

-- the numbers before a place are less than those of the other list from its place on
abbrev pub AreLessThanRest : List ℕ → ℕ → List ℕ → ℕ → Type 0
AreLessThanRest set n from i = (m k : ℕ) → i ≤ m → slice_get from m ≡ Some k → AreLess set n k

-- one of the first n hops leads from the set to the number
abbrev pub IsReachedBelow : List ℕ → List ℕ → List ℕ → ℕ → ℕ → Type 0
IsReachedBelow set from to n b = (i : ℕ) × (a : ℕ) × (i < n) × (slice_get from i ≡ Some a) × (slice_get to i ≡ Some b) × Contains set a

abbrev pub AreReachedBelow : List ℕ → List ℕ → List ℕ → ℕ → List ℕ → Type 0
AreReachedBelow set from to n out = IsRisingListOf (IsReachedBelow set from to n) out

-- some hop does
abbrev pub AreReached : List ℕ → List ℕ → List ℕ → List ℕ → Type 0
AreReached set from to out = AreReachedBelow set from to (length from) out
