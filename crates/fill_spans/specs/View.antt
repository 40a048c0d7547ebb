-- What contracts see of a text that was read.
use Rattle.std.specs.Prelude.{ℕ, List}
use Rattle.fill_tokens.specs.declared.token_set.TokenSet.{TokenSet}

-- the text, and the set of tokens that it was read for
pub record SpansView : Type 0 where
  pub text : List ℕ
  pub token_set : TokenSet
