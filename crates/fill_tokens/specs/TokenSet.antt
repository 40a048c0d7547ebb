-- Sets of tokens, and the places whose tokens are in a set.
use Rattle.std.specs.Prelude.{◌≡◌, ◌==◌, Bool, true, List, All}
use Rattle.std.specs.Int.{bit_at}
use Rattle.fill_tokens.specs.PlaceGrammar.{IsPlace}
use Rattle.fill_tokens.specs.Token.{token_number}
use Rattle.fill_tokens.specs.declared.token.Token.{Token}
use Rattle.fill_tokens.specs.declared.token_set.TokenSet.{TokenSet}
use Rattle.fill_tokens.specs.declared.place.Place.{Place}
use Rattle.fill_tokens.specs.declared.place.Place.TheVariants.{CPos, Pos}

-- the bit of the token's number says whether the set has it
abbrev pub has_token : TokenSet → Token → Bool
has_token token_set x = bit_at token_set.bits (token_number x) == 1

abbrev pub IsTokenOf : TokenSet → Token → Type 0
IsTokenOf token_set x = has_token token_set x ≡ true

abbrev pub AreTokensOf : TokenSet → List Token → Type 0
AreTokensOf token_set r = All (IsTokenOf token_set) r

-- the tokens of a place are in the set
abbrev pub HasTokensOf : TokenSet → Place → Type 0
HasTokensOf token_set (CPos k) = Unit {0}
HasTokensOf token_set (Pos r s c) = AreTokensOf token_set r × AreTokensOf token_set s

-- the place is one of the grammar, by tokens of the set
abbrev pub IsPlaceOf : TokenSet → Place → Type 0
IsPlaceOf token_set p = IsPlace p × HasTokensOf token_set p
