-- Marks of positions.
use Rattle.std.specs.Prelude.{◌≡◌, ℕ, ◌+◌, ◌<◌, ◌≤◌, Bool, true, List, length, slice_get, Some}
use Rattle.std.specs.List.{All}
use Rattle.fill_spans.specs.Pieces.{HasPiece}

-- exactly the positions from 0 to n with the property are marked
pub record AreMarks (P : ℕ → Type 0) (n : ℕ) (flags : List Bool) : Type 0 where
  pub long : length flags ≡ n + 1
  pub sound : (k : ℕ) → slice_get flags k ≡ Some true → P k
  pub full : (k : ℕ) → P k → slice_get flags k ≡ Some true

-- m flags that are all the same
pub record AreAll (flag : Bool) (m : ℕ) (flags : List Bool) : Type 0 where
  pub long : length flags ≡ m
  pub same : (k : ℕ) → k < m → slice_get flags k ≡ Some flag

-- marked in both
abbrev pub Common : List Bool → List Bool → ℕ → Type 0
Common l r i = (slice_get l i ≡ Some true) × (slice_get r i ≡ Some true)

abbrev pub AreWithin : ℕ → List ℕ → Type 0
AreWithin n ks = All (λ k. k ≤ n) ks

-- one of the numbers is marked
abbrev pub AnyMarked : List Bool → List ℕ → Type 0
AnyMarked at ks = (i k : ℕ) × (slice_get ks i ≡ Some k) × (slice_get at k ≡ Some true)

-- one of the hops leads there from a marked position
abbrev pub Reached : List Bool → List ℕ → List ℕ → ℕ → Type 0
Reached at from to k = (a : ℕ) × HasPiece from to a k × (slice_get at a ≡ Some true)

-- where the first m hops lead from marked positions is marked, and nothing else
pub record AreMarked (at : List Bool) (from to : List ℕ) (m n : ℕ) (flags : List Bool) : Type 0 where
  pub size : length flags ≡ n + 1
  pub sound : (k : ℕ) → slice_get flags k ≡ Some true → Reached at from to k
  pub full : (i a b : ℕ) → i < m → slice_get from i ≡ Some a → slice_get to i ≡ Some b → slice_get at a ≡ Some true → slice_get flags b ≡ Some true
