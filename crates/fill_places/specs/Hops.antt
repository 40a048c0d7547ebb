-- The pieces that tokens span, from one side to the other.
use Rattle.std.specs.Prelude.{◌↔◌, ℕ, List}
use Rattle.fill_spans.specs.Pieces.{HasPiece}
use Rattle.fill_tokens.specs.Span.{Spans}
use Rattle.fill_tokens.specs.declared.token.Token.{Token}

-- the token spans the piece from b to a
abbrev pub SpansBack : List ℕ → Token → ℕ → ℕ → Type 0
SpansBack t token a b = Spans token t b a

-- exactly the hops of the relation, each from a number of the first list to the one of the same place of the second
abbrev pub AreHops : (ℕ → ℕ → Type 0) → List ℕ → List ℕ → Type 0
AreHops S from to = (a b : ℕ) → HasPiece from to a b ↔ S a b
