-- The tokens of a sequence.
use Rattle.std.specs.Prelude.{List, [], ◌∷◌}
use Rattle.fill_tokens.specs.declared.token.Token.{Token}
use Rattle.fill_tokens.specs.declared.seq.Tokens.{Tokens}
use Rattle.fill_tokens.specs.declared.seq.Tokens.TheVariants.{None, One, Two, Three}

abbrev pub tokens_of : Tokens → List Token
tokens_of None = []
tokens_of (One a) = a ∷ []
tokens_of (Two a b) = a ∷ b ∷ []
tokens_of (Three a b c) = a ∷ b ∷ c ∷ []

-- the sequence of a list of at most three tokens
abbrev pub tokens_from : List Token → Tokens
tokens_from [] = None
tokens_from (a ∷ []) = One a
tokens_from (a ∷ b ∷ []) = Two a b
tokens_from (a ∷ b ∷ c ∷ rest) = Three a b c
