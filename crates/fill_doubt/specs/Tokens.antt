-- What was read of a text.
use Rattle.std.specs.Prelude.{◌≡◌, ℕ, List, slice_get, Some}
use Rattle.fill_spans.specs.Pieces.{ArePieces}
use Rattle.fill_spans.specs.Read.{AreClasses}
use Rattle.fill_tokens.specs.declared.token.Token.{Token}
use Rattle.fill_doubt.specs.declared.tokens.TokenPieces.{TokenPieces}
use Rattle.fill_doubt.specs.declared.tokens.Tokens.{Tokens}

-- the classes are those of the text's characters, and the pieces those of the tokens
pub record AreReadIn (t : List ℕ) (tokens : Tokens) : Type 0 where
  pub classes : AreClasses t tokens.classes.items
  pub read : (i : ℕ) (x : TokenPieces) → slice_get tokens.read.items i ≡ Some x → ArePieces x.token t x.pieces

-- one of them is the token
abbrev pub HasToken : Tokens → Token → ℕ → Type 0
HasToken tokens token i = (x : TokenPieces) × (slice_get tokens.read.items i ≡ Some x) × (x.token ≡ token)
