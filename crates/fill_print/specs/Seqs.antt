-- Sequences of tokens up to their bracket, one token after the other.
use Rattle.std.specs.Prelude.{◌≡◌, ℕ, ◌-◌, ◌<◌, Bool, true, false, ◌&&◌, List, [], ◌∷◌, ◌++◌, Option, Some, None}
use Rattle.fill_tokens.specs.declared.token.Token.{Token}
use Rattle.fill_tokens.specs.declared.token.Token.TheVariants.{End}
use Rattle.fill_tokens.specs.declared.token_set.TokenSet.{TokenSet}
use Rattle.fill_print.specs.Reading.{ManyFrom}
use Rattle.fill_print.specs.Tokens.{TokenFront}

-- how many tokens may still come, whether none was there, and whether the sequence may end
pub record Spot : Type 0 where
  pub room : ℕ
  pub start : Bool
  pub may_end : Bool

-- after End nothing comes
abbrev pub room_after : ℕ → Token → ℕ
room_after room End = 0
room_after room _ = room - 1

abbrev pub after_token : Spot → Token → Spot
after_token p t = record { room = room_after p.room t; start = false; may_end = true }

-- a blank stands between two tokens
abbrev pub gap : Bool → List ℕ
gap true = []
gap false = 32 ∷ []

-- the next token, or the bracket: Start may come first if the sequence may have it, and End last
abbrev pub TokenStep : TokenSet → Bool → Bool → Spot → Option Token → List ℕ → List ℕ → Type 0
TokenStep token_set starts ends p None s k = (p.may_end ≡ true) × (s ≡ 93 ∷ k)
TokenStep token_set starts ends p (Some t) s k = (0 < p.room) × (m : List ℕ) × (s ≡ gap p.start ++ m) × TokenFront token_set (p.start && starts) ends t m k

abbrev pub TokenSeq : TokenSet → Bool → Bool → Spot → List Token → List ℕ → List ℕ → Type 0
TokenSeq token_set starts ends = ManyFrom (TokenStep token_set starts ends) after_token

abbrev pub AtStart : ℕ → Bool → Spot
AtStart room may_end = record { room = room; start = true; may_end = may_end }

abbrev pub Later : ℕ → Spot
Later room = record { room = room; start = false; may_end = true }
