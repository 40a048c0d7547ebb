-- The pieces of a text that a token spans, as two lists in order.
use Rattle.std.specs.Prelude.{◌≡◌, ◌↔◌, ℕ, ◌<◌, List, length, slice_get, Some}
use Rattle.std.specs.List.{AllPairs}
use Rattle.fill_tokens.specs.Span.{Spans}
use Rattle.fill_tokens.specs.declared.token.Token.{Token}
use Rattle.fill_spans.specs.declared.pieces.Pieces.{Pieces}

abbrev pub Rises : List ℕ → Type 0
Rises ks = AllPairs (λ x y. x < y) ks

-- the piece begins at a number of the first list, and ends at the number of the same place of the second
abbrev pub HasPiece : List ℕ → List ℕ → ℕ → ℕ → Type 0
HasPiece starts ends a b = (i : ℕ) × (slice_get starts i ≡ Some a) × (slice_get ends i ≡ Some b)

-- exactly the pieces of the relation, each once, in the order of their starts, which is that of their ends too
pub record AreExactly (S : ℕ → ℕ → Type 0) (starts ends : List ℕ) : Type 0 where
  pub paired : length starts ≡ length ends
  pub exact : (a b : ℕ) → HasPiece starts ends a b ↔ S a b
  pub starts_rise : Rises starts
  pub ends_rise : Rises ends

-- all pieces of the text that the token spans
abbrev pub ArePieces : Token → List ℕ → Pieces → Type 0
ArePieces token t p = AreExactly (Spans token t) p.starts.items p.ends.items
