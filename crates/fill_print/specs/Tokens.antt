-- Tokens by their names, and the tokens that a notation spells.
use Rattle.std.specs.Prelude.{◌≡◌, ◌⊎◌, ℕ, Bool, true, ◌&&◌, List, [], ◌∷◌, ◌++◌}
use Rattle.fill_tokens.specs.Token.{token_name}
use Rattle.fill_tokens.specs.TokenSet.{has_token}
use Rattle.fill_tokens.specs.declared.token.Token.{Token}
use Rattle.fill_tokens.specs.declared.token.Token.TheVariants.{Start, End}
use Rattle.fill_tokens.specs.declared.token_set.TheConstants.TokenSet as set
use Rattle.fill_tokens.specs.declared.token_set.TokenSet.{TokenSet}
use Rattle.fill_print.specs.declared.notation.Notation.{Notation}
use Rattle.fill_print.specs.declared.notation.Notation.TheVariants as notation

abbrev pub tokens_of : Notation → TokenSet
tokens_of notation.Second = set.SECOND
tokens_of notation.Third = set.THIRD
tokens_of notation.All = set.ALL

-- Start and End stand at some places alone
abbrev pub may_stand : Bool → Bool → Token → Bool
may_stand start finish Start = start
may_stand start finish End = finish
may_stand start finish _ = true

-- the token is of the set, and may stand here
abbrev pub may_come : TokenSet → Bool → Bool → Token → Bool
may_come token_set start finish t = has_token token_set t && may_stand start finish t

abbrev pub TokenFront : TokenSet → Bool → Bool → Token → List ℕ → List ℕ → Type 0
TokenFront token_set start finish t s k = (may_come token_set start finish t ≡ true) × (s ≡ token_name t ++ k)

abbrev pub IsIn : Token → List Token → Type 0
IsIn t [] = ⊥
IsIn t (u ∷ us) = (t ≡ u) ⊎ IsIn t us

-- a token of these
abbrev pub TokenOf : TokenSet → Bool → Bool → List Token → Token → List ℕ → List ℕ → Type 0
TokenOf token_set start finish ts t s k = IsIn t ts × TokenFront token_set start finish t s k
