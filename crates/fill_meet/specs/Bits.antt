-- Rows of bits, in words of 64.
use Rattle.std.specs.Prelude.{◌≡◌, ◌⊎◌, ℕ, ◌+◌, ◌*◌, ◌/◌, ◌%◌, ◌<◌, ◌≤◌, length, get_or}
use Rattle.std.specs.Int.{bit_at}
use Rattle.fill_meet.specs.declared.bits.Bits.{Bits}

-- the bit of the row u at the column v
abbrev pub IsBit : Bits → ℕ → ℕ → Type 0
IsBit b u v = bit_at (get_or b.words.items (u * b.per_row + v / 64) 0) (v % 64) ≡ 1

-- room for these rows, and for at least these columns
pub record HasRoom (rows columns : ℕ) (b : Bits) : Type 0 where
  pub tall : length b.words.items ≡ rows * b.per_row
  pub wide : b.per_row ≡ columns / 64 + 1

-- a bit of the row at the column
abbrev pub IsPlace : ℕ → ℕ → Bits → Type 0
IsPlace u v b = (u * b.per_row + v / 64 < length b.words.items) × (v / 64 < b.per_row)

-- one more bit
pub record IsPutBit (u v : ℕ) (old new : Bits) : Type 0 where
  pub stays : (a b : ℕ) → IsBit old a b → IsBit new a b
  pub here : IsBit new u v
  pub was : (a b : ℕ) → b / 64 < old.per_row → IsBit new a b → ((a ≡ u) × (b ≡ v)) ⊎ IsBit old a b
  pub long : length new.words.items ≡ length old.words.items
  pub wide : new.per_row ≡ old.per_row

-- the first column from a given one on where the row has a bit, or the end
pub record IsNextBit (b : Bits) (row from end column : ℕ) : Type 0 where
  pub past : from ≤ column
  pub within : column ≤ end
  pub none : (v : ℕ) → from ≤ v → v < column → IsBit b row v → ⊥
  pub here : column < end → IsBit b row column
