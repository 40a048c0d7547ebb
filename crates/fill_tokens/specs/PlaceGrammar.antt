-- Which places the grammar has.
use Rattle.std.specs.Prelude.{◌≡◌, ◌≢◌, ℕ, ◌+◌, ◌<◌, ◌≤◌, List, pos, length, slice_get, Some, FitsSigned}
use Rattle.std.specs.Int.{w32}
use Rattle.fill_tokens.specs.declared.token.Token.{Token}
use Rattle.fill_tokens.specs.declared.token.Token.TheVariants.{Start, End}
use Rattle.fill_tokens.specs.declared.place.Place.{Place}
use Rattle.fill_tokens.specs.declared.place.Place.TheVariants.{CPos, Pos}

-- the token stands in the sequence only at the front
abbrev pub OnlyFirst : Token → List Token → Type 0
OnlyFirst x r = (i : ℕ) → slice_get r i ≡ Some x → i ≡ 0

-- the token stands in the sequence only at the back
abbrev pub OnlyLast : Token → List Token → Type 0
OnlyLast x r = (i : ℕ) → slice_get r i ≡ Some x → i + 1 ≡ length r

-- the token does not stand in the sequence
abbrev pub Nowhere : Token → List Token → Type 0
Nowhere x r = (i : ℕ) → slice_get r i ≢ Some x

-- the sequences of a place: at most three tokens each, not both empty, the start of the text only where a sequence
-- before the position begins, and its end only where a sequence after the position ends
pub record AreAround (r s : List Token) : Type 0 where
  pub short_left : length r ≤ 3
  pub short_right : length s ≤ 3
  pub some : 0 < length r + length s
  pub start_left : OnlyFirst Start r
  pub start_right : Nowhere Start s
  pub end_left : Nowhere End r
  pub end_right : OnlyLast End s

-- the place is in the grammar; its number is one of 32 bits with a sign, and a count is not 0
abbrev pub IsPlace : Place → Type 0
IsPlace (CPos k) = FitsSigned w32 k
IsPlace (Pos r s c) = FitsSigned w32 c × (c ≢ pos 0) × AreAround r s
