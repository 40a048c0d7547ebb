-- A stream of which the first bytes were read ahead.
use Rattle.std.specs.Prelude.{◌≡◌, ℕ, ◌<◌, List, [], ◌∷◌, length, take, Bool, false, ⊤, Option, None, Some}
use Rattle.std.specs.Io.KnownBytes.{Consumes, IsAtEnd}
use Rattle.csv.specs.Reading.{is_bom}

-- a source, and the bytes that were read ahead and not given yet
pub record FrontedData (S : Type 0) : Type 0 where
  pub source : S
  pub front : List ℕ

-- whether a text begins with a byte order mark
abbrev pub is_marked : List ℕ → Bool
is_marked [] = false
is_marked (a ∷ []) = false
is_marked (a ∷ b ∷ []) = false
is_marked (a ∷ b ∷ c ∷ rest) = is_bom a b c

-- the same of known bytes
abbrev pub IsMarked : Option (List ℕ) → Bool → Type 0
IsMarked None marked = ⊤
IsMarked (Some bytes) marked = marked ≡ is_marked bytes

-- known bytes lose the first one, or there is none
abbrev pub GivesByte : Option (List ℕ) → Option (List ℕ) → Option ℕ → Type 0
GivesByte old new None = Consumes old new [] × IsAtEnd new
GivesByte old new (Some byte) = Consumes old new (byte ∷ [])

-- known bytes lose the n bytes that the buffer begins with, and all of them where the buffer has room for more
abbrev pub GivesFront : Option (List ℕ) → Option (List ℕ) → ℕ → List ℕ → Type 0
GivesFront old new n buf = Consumes old new (take n buf) × (n < length buf → IsAtEnd new)
