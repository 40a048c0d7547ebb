-- The rows of the tokens, put together.
use Rattle.std.proofs.Common.{◌≡◌, ℕ, ◌+◌, inl, inr, List, [], ◌∷◌, ◌++◌, sym, ap, ◌∙◌, subst}
use Rattle.std.proofs.lemmas.List.{length_push}
use Rattle.fill_tokens.specs.Token.{token_number}
use Rattle.fill_tokens.specs.TokenSet.{IsTokenOf}
use Rattle.fill_tokens.specs.declared.token.Token.{Token}
use Rattle.fill_tokens.specs.declared.token_set.TokenSet.{TokenSet}
use Rattle.fill_tokens.proofs.TokenLaws.{number_exact}
use Rattle.fill_spans.specs.declared.pieces.Pieces.{Pieces}
use Rattle.fill_spans.specs.Pieces.{ArePieces}
use Rattle.fill_spans.specs.Read.{AreRows}
use Rattle.fill_spans.proofs.PieceLaws.{push_cases}

pub rows_more : (token_set : TokenSet) (m : ℕ) (t : List ℕ) (rows more : List Pieces) (row : Pieces) (token : Token) → token_number token ≡ m + 1 → (IsTokenOf token_set token → ArePieces token t row) → more ≡ rows ++ row ∷ [] →
    AreRows token_set m t rows → AreRows token_set (m + 1) t more
rows_more token_set m t rows more row token number are e r = subst (AreRows token_set (m + 1) t) (sym e) record {
  many = length_push rows row ∙ ap (λ n. n + 1) r.many;
  each = λ i p x h number2. elim (push_cases rows row p i h) [
    | inl old ↦ r.each i p x old number2
    | inr last ↦
        let same : token ≡ x = number_exact token x (number ∙ ap (λ n. n + 1) (sym r.many ∙ sym last.0) ∙ sym number2) in
        subst (λ z. IsTokenOf token_set x → ArePieces x t z) last.1 (subst (λ z. IsTokenOf token_set z → ArePieces z t row) same are)
  ];
}
