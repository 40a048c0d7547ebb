-- What contracts see of an index of places.
use Rattle.std.specs.Prelude.{ℕ, List}
use Rattle.fill_tokens.specs.declared.token_set.TokenSet.{TokenSet}

-- the text that was read, and the set of tokens of the places that are listed
pub record IndexView : Type 0 where
  pub text : List ℕ
  pub token_set : TokenSet
