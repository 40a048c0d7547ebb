-- Sequences of one and of two tokens, listed by their tokens.
use Rattle.std.specs.Prelude.{◌≡◌, ℕ, ◌+◌, ◌<◌, List, [], ◌∷◌}
use Rattle.fill_tokens.specs.Token.{token_number}
use Rattle.fill_tokens.specs.TokenSet.{IsTokenOf}
use Rattle.fill_tokens.specs.declared.token.Token.{Token}
use Rattle.fill_tokens.specs.declared.token.TheConstants.{TOKEN_COUNT}
use Rattle.fill_tokens.specs.declared.token_set.TokenSet.{TokenSet}
use Rattle.fill_tree.specs.Separate.{IsTested}

-- this one token, where it is in the set
abbrev pub IsOne : TokenSet → Token → List Token → Type 0
IsOne token_set x r = IsTokenOf token_set x × (r ≡ x ∷ [])

-- one token of the set, with a number below m
abbrev pub OfOne : TokenSet → ℕ → List Token → Type 0
OfOne token_set m r = (x : Token) × (token_number x < m) × IsOne token_set x r

-- these two tokens, where they may stand in a literal by tokens of the set
abbrev pub OfPair : TokenSet → Token → Token → List Token → Type 0
OfPair token_set x y r = (r ≡ x ∷ y ∷ []) × IsTested token_set r

-- two tokens of a literal, of which the second one has a number below m
abbrev pub OfSecond : TokenSet → Token → ℕ → List Token → Type 0
OfSecond token_set x m r = (y : Token) × (token_number y < m) × OfPair token_set x y r

-- two tokens of a literal, of which the first one has a number below m
abbrev pub OfTwo : TokenSet → ℕ → List Token → Type 0
OfTwo token_set m r = (x : Token) × (token_number x < m) × OfSecond token_set x (TOKEN_COUNT + 1) r
