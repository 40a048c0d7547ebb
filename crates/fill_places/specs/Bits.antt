-- Flags of positions, kept as the bits of words, of 64 positions each.
use Rattle.std.specs.Prelude.{◌≡◌, ℕ, ◌/◌, ◌%◌, ◌<◌, ◌==◌, Bool, true, List, length, map, slice_get, slice_index, Some}
use Rattle.std.specs.Int.{bit_at}
use Rattle.std.specs.List.{range_with_len}

abbrev pub flag_of : List ℕ → ℕ → Bool
flag_of words k = bit_at (slice_index words (k / 64)) (k % 64) == 1

-- the flags of the first n positions
abbrev pub flags_of : List ℕ → ℕ → List Bool
flags_of words n = map (flag_of words) (range_with_len 0 n)

-- the position is flagged in both
abbrev pub BothSet : List ℕ → List ℕ → ℕ → Type 0
BothSet a b k = (flag_of a k ≡ true) × (flag_of b k ≡ true)

abbrev pub IsSetBit : ℕ → ℕ → Type 0
IsSetBit w j = bit_at w j ≡ 1

-- m words that are all the same
pub record AreEqual (word m : ℕ) (words : List ℕ) : Type 0 where
  pub long : length words ≡ m
  pub same : (i : ℕ) → i < m → slice_get words i ≡ Some word
