-- How a text stretches its shape.
use Rattle.std.specs.Prelude.{◌≡◌, ◌⊎◌, ℕ, ◌+◌, ◌<◌, ◌≤◌, Bool, false, ◌&&◌, ◌||◌, nat_lt, nat_le, List, length, slice_get, slice_index, Some}
use Rattle.fill_text.specs.Classes.{class_of}
use Rattle.fill_spans.specs.Pieces.{Rises}

-- a character of ASCII below the digits, between them and the letters, between those of both cases, or above them. Each
-- token of one character is one of these
abbrev pub is_sign : ℕ → Bool
is_sign c = nat_lt c 48 || (nat_le 58 c && nat_le c 64) || (nat_le 91 c && nat_le c 96) || (nat_le 123 c && nat_le c 126)

-- the character c of a shape stands for the characters of t from a to b: they are all of its classes, and there is only
-- one, c itself, or they are no signs
pub record IsBlock (c : ℕ) (t : List ℕ) (a b : ℕ) : Type 0 where
  pub classes : (k : ℕ) → a ≤ k → k < b → class_of (slice_index t k) ≡ class_of c
  pub signs : (k : ℕ) → a ≤ k → k < b → is_sign (slice_index t k) ≡ is_sign c
  pub itself : ((b ≡ a + 1) × (slice_index t a ≡ c)) ⊎ (is_sign c ≡ false)

-- each character of w stands for a block of the first n characters of t; the bounds are where the blocks begin, and n
pub record AreBlocks (n : ℕ) (w t bounds : List ℕ) : Type 0 where
  pub long : length bounds ≡ length w + 1
  pub rising : Rises bounds
  pub first : slice_get bounds 0 ≡ Some 0
  pub last : slice_get bounds (length w) ≡ Some n
  pub each : (i a b : ℕ) → slice_get bounds i ≡ Some a → slice_get bounds (i + 1) ≡ Some b → IsBlock (slice_index w i) t a b

-- t stretches w: each character of w stands for a block of t
abbrev pub IsStretched : List ℕ → List ℕ → List ℕ → Type 0
IsStretched w t bounds = AreBlocks (length t) w t bounds
