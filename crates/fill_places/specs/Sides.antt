-- The sequences before and after a position.
use Rattle.std.specs.Prelude.{◌≡◌, ◌≢◌, ℕ, List, []}
use Rattle.fill_tokens.specs.Span.{Begins, Ends}
use Rattle.fill_tokens.specs.PlaceGrammar.{OnlyFirst, OnlyLast, Nowhere}
use Rattle.fill_tokens.specs.TokenSet.{AreTokensOf}
use Rattle.fill_tokens.specs.declared.token.Token.{Token}
use Rattle.fill_tokens.specs.declared.token.Token.TheVariants.{Start, End}
use Rattle.fill_tokens.specs.declared.token_set.TokenSet.{TokenSet}

-- the sequence may stand before a position by its tokens and its ends; its length is not looked at
pub record IsLeft (token_set : TokenSet) (r : List Token) : Type 0 where
  pub tokens : AreTokensOf token_set r
  pub start : OnlyFirst Start r
  pub end : Nowhere End r

-- .. after a position
pub record IsRight (token_set : TokenSet) (r : List Token) : Type 0 where
  pub tokens : AreTokensOf token_set r
  pub start : Nowhere Start r
  pub end : OnlyLast End r

-- a sequence that may stand before a position may go on with the token
abbrev pub MayEnd : List Token → Token → Type 0
MayEnd r x = (x ≢ End) × (x ≡ Start → r ≡ [])

-- .. that may stand after a position may have the token before it
abbrev pub MayBegin : Token → List Token → Type 0
MayBegin x r = (x ≢ Start) × (x ≡ End → r ≡ [])

-- the sequence may stand before the position, and ends there
abbrev pub LeftAt : TokenSet → List ℕ → List Token → ℕ → Type 0
LeftAt token_set t r k = IsLeft token_set r × Ends r t k

-- the sequence may stand after the position, and begins there
abbrev pub RightAt : TokenSet → List ℕ → List Token → ℕ → Type 0
RightAt token_set t r k = IsRight token_set r × Begins r t k
