-- Sequences that may stand before or after a position, a token longer.
use Rattle.std.proofs.Common.{◌≡◌, ℕ, zero, suc, ◌+◌, ◌⊎◌, inl, inr, List, [], ◌∷◌, ◌++◌, length, refl, ap, ◌∙◌, arith, slice_get, Some}
use Rattle.std.proofs.lemmas.List.Elements.{All-nil, All-cons, All-head, All-tail, All-append}
use Rattle.std.proofs.lemmas.Option.{same_Some}
use Rattle.fill_tokens.specs.TokenSet.{IsTokenOf, AreTokensOf}
use Rattle.fill_tokens.specs.declared.token.Token.{Token}
use Rattle.fill_tokens.specs.declared.token.Token.TheVariants.{Start, End}
use Rattle.fill_tokens.specs.declared.token_set.TokenSet.{TokenSet}
use Rattle.fill_places.specs.Sides.{IsLeft, IsRight, MayEnd, MayBegin}

-- a token of the longer sequence is one of the shorter one, or the last
snoc_cases : (r : List Token) (x y : Token) (i : ℕ) → slice_get (r ++ x ∷ []) i ≡ Some y → (slice_get r i ≡ Some y) ⊎ ((i ≡ length r) × (x ≡ y))
snoc_cases [] x y zero h = inr (refl, same_Some x y h)
snoc_cases [] x y (suc i) h = cc
snoc_cases (z ∷ zs) x y zero h = inl h
snoc_cases (z ∷ zs) x y (suc i) h = elim (snoc_cases zs x y i h) [ inl l ↦ inl l | inr r ↦ inr (ap suc r.0, r.1) ]

snoc_front : (r : List Token) (x y : Token) (i : ℕ) → slice_get r i ≡ Some y → slice_get (r ++ x ∷ []) i ≡ Some y
snoc_front [] x y i h = cc
snoc_front (z ∷ zs) x y zero h = h
snoc_front (z ∷ zs) x y (suc i) h = snoc_front zs x y i h

snoc_back : (r : List Token) (x : Token) → slice_get (r ++ x ∷ []) (length r) ≡ Some x
snoc_back [] x = refl
snoc_back (z ∷ zs) x = snoc_back zs x

no_items : (r : List Token) → length r ≡ 0 → r ≡ []
no_items [] h = refl
no_items (x ∷ xs) h = absurd (omega arith)

-- tokens of a set
tokens_front : (token_set : TokenSet) (r : List Token) (x : Token) → AreTokensOf token_set (r ++ x ∷ []) → AreTokensOf token_set r
tokens_front token_set [] x h = All-nil (IsTokenOf token_set)
tokens_front token_set (z ∷ zs) x h =
    All-cons (IsTokenOf token_set) z zs (All-head (IsTokenOf token_set) z (zs ++ x ∷ []) h) (tokens_front token_set zs x (All-tail (IsTokenOf token_set) z (zs ++ x ∷ []) h))

tokens_last : (token_set : TokenSet) (r : List Token) (x : Token) → AreTokensOf token_set (r ++ x ∷ []) → IsTokenOf token_set x
tokens_last token_set [] x h = All-head (IsTokenOf token_set) x [] h
tokens_last token_set (z ∷ zs) x h = tokens_last token_set zs x (All-tail (IsTokenOf token_set) z (zs ++ x ∷ []) h)

pub left_snoc : (token_set : TokenSet) (r : List Token) (x : Token) → IsLeft token_set r → MayEnd r x → IsTokenOf token_set x → IsLeft token_set (r ++ x ∷ [])
left_snoc token_set r x l m of = record {
  tokens = All-append (IsTokenOf token_set) r (x ∷ []) l.tokens (All-cons (IsTokenOf token_set) x [] of (All-nil (IsTokenOf token_set)));
  start = λ i h. elim (snoc_cases r x Start i h) [ inl g ↦ l.start i g | inr e ↦ e.0 ∙ ap length (m.1 e.1) ];
  end = λ i h. elim (snoc_cases r x End i h) [ inl g ↦ l.end i g | inr e ↦ m.0 e.1 ];
}

pub left_front : (token_set : TokenSet) (r : List Token) (x : Token) → IsLeft token_set (r ++ x ∷ []) → IsLeft token_set r
left_front token_set r x l = record {
  tokens = tokens_front token_set r x l.tokens;
  start = λ i h. l.start i (snoc_front r x Start i h);
  end = λ i h. l.end i (snoc_front r x End i h);
}

pub left_token : (token_set : TokenSet) (r : List Token) (x : Token) → IsLeft token_set (r ++ x ∷ []) → IsTokenOf token_set x
left_token token_set r x l = tokens_last token_set r x l.tokens

pub left_last : (token_set : TokenSet) (r : List Token) (x : Token) → IsLeft token_set (r ++ x ∷ []) → MayEnd r x
left_last token_set r x l = (
  λ e. l.end (length r) (snoc_back r x ∙ ap Some e),
  λ e. no_items r (l.start (length r) (snoc_back r x ∙ ap Some e)),
)

pub left_none : (token_set : TokenSet) → IsLeft token_set []
left_none token_set = record { tokens = All-nil (IsTokenOf token_set); start = λ i h. absurd (none_at i Start h); end = λ i h. none_at i End h }
  where
    none_at : (i : ℕ) (y : Token) → slice_get {X = Token} [] i ≡ Some y → ⊥
    none_at i y h = cc

pub right_cons : (token_set : TokenSet) (x : Token) (r : List Token) → IsRight token_set r → MayBegin x r → IsTokenOf token_set x → IsRight token_set (x ∷ r)
right_cons token_set x r l m of = record {
  tokens = All-cons (IsTokenOf token_set) x r of l.tokens;
  start = λ i h. start_at i h;
  end = λ i h. end_at i h;
}
  where
    start_at : (i : ℕ) → slice_get (x ∷ r) i ≡ Some Start → ⊥
    start_at zero h = m.0 (same_Some x Start h)
    start_at (suc i) h = l.start i h

    end_at : (i : ℕ) → slice_get (x ∷ r) i ≡ Some End → i + 1 ≡ length (x ∷ r)
    end_at zero h = let e = ap length (m.1 (same_Some x End h)) in omega arith
    end_at (suc i) h = let e = l.end i h in omega arith

pub right_rest : (token_set : TokenSet) (x : Token) (r : List Token) → IsRight token_set (x ∷ r) → IsRight token_set r
right_rest token_set x r l = record {
  tokens = All-tail (IsTokenOf token_set) x r l.tokens;
  start = λ i h. l.start (suc i) h;
  end = λ i h. let e = l.end (suc i) h in omega arith;
}

pub right_token : (token_set : TokenSet) (x : Token) (r : List Token) → IsRight token_set (x ∷ r) → IsTokenOf token_set x
right_token token_set x r l = All-head (IsTokenOf token_set) x r l.tokens

pub right_first : (token_set : TokenSet) (x : Token) (r : List Token) → IsRight token_set (x ∷ r) → MayBegin x r
right_first token_set x r l = (
  λ e. l.start zero (ap Some e),
  λ e. no_items r (let f = l.end zero (ap Some e) in omega arith),
)

pub right_none : (token_set : TokenSet) → IsRight token_set []
right_none token_set = record { tokens = All-nil (IsTokenOf token_set); start = λ i h. none_at i Start h; end = λ i h. absurd (none_at i End h) }
  where
    none_at : (i : ℕ) (y : Token) → slice_get {X = Token} [] i ≡ Some y → ⊥
    none_at i y h = cc

-- sequences of one and of two tokens
