-- The listing of the sequences that literals test for.
use Rattle.std.proofs.Common.{◌≡◌, ℕ, zero, suc, ◌+◌, ◌<◌, ◌≤◌, ◌⊎◌, inl, inr, List, [], ◌∷◌, ◌++◌, slice_get, Some, refl, sym, ap, ◌∙◌, subst, arith}
use Rattle.std.specs.Prelude.{◌≢◌}
use Rattle.std.specs.declared.cmp.Ordering.TheVariants.{Less}
use Rattle.std.proofs.lemmas.Bool.{cases_order}
use Rattle.std.proofs.lemmas.List.Elements.{All-nil, All-cons, All-head, All-tail}
use Rattle.std.proofs.lemmas.Option.{same_Some}
use Rattle.fill_tokens.specs.TokenSet.{IsTokenOf}
use Rattle.fill_tokens.specs.declared.token.TheConstants.{TOKEN_COUNT}
use Rattle.fill_tokens.specs.Token.{token_number}
use Rattle.fill_tokens.specs.Place.{seq_cmp}
use Rattle.fill_tokens.specs.declared.token.Token.{Token}
use Rattle.fill_tokens.specs.declared.token.Token.TheVariants.{Start, End}
use Rattle.fill_tokens.proofs.TokenLaws.{number_exact, number_within}
use Rattle.fill_text.specs.Lists.{Lists, Adds}
use Rattle.fill_text.proofs.ListsLaws.{adds_none, adds_one, adds_then, adds_all}
use Rattle.fill_tokens.proofs.SeqOrder.{shorter_less, behind_less, front_less, number_some}
use Rattle.fill_tokens.specs.declared.token_set.TokenSet.{TokenSet}
use Rattle.fill_tree.specs.Separate.{IsTested}
use Rattle.fill_guard.specs.Listed.{IsOne, OfOne, OfPair, OfSecond, OfTwo}

-- the two sequences are these, of which one is before the other
less_at : (r s a b : List Token) → r ≡ a → s ≡ b → seq_cmp a b ≡ Less → seq_cmp r s ≡ Less
less_at r s a b p q h = subst (λ z. seq_cmp z s ≡ Less) (sym p) (subst (λ z. seq_cmp a z ≡ Less) (sym q) h)

-- a token's number is below m, or it is the token of the number
next_token : (x y : Token) (m : ℕ) → token_number y ≡ m → token_number x < m + 1 → (token_number x < m) ⊎ (x ≡ y)
next_token x y m is lt = elim (cases_order (token_number x) m) [
  | inl e ↦ inr (number_exact x y (e ∙ sym is))
  | inr o ↦ elim o [ inl l ↦ inl l | inr g ↦ absurd (omega arith) ]
]

none_numbered : (x : Token) → token_number x < 1 → ⊥
none_numbered x lt = let some = number_some x in omega arith

pub one_barred : (token_set : TokenSet) (x : Token) (old : List (List Token)) → (IsTokenOf token_set x → ⊥) → Adds seq_cmp old old (IsOne token_set x)
one_barred token_set x old not = adds_none seq_cmp (IsOne token_set x) old (λ r h. not h.0)

pub one_added : (token_set : TokenSet) (x : Token) (old new : List (List Token)) → IsTokenOf token_set x → new ≡ old ++ (x ∷ []) ∷ [] → Adds seq_cmp old new (IsOne token_set x)
one_added token_set x old new of e = adds_one seq_cmp (IsOne token_set x) old new (x ∷ []) e (of, refl) (λ y q. q.1)

pub ones_none : (token_set : TokenSet) (old : List (List Token)) → Adds seq_cmp old old (OfOne token_set 1)
ones_none token_set old = adds_none seq_cmp (OfOne token_set 1) old (λ r h. none_numbered h.0 h.1)

pub ones_more : (token_set : TokenSet) (old mid new : List (List Token)) (m : ℕ) (x : Token) → token_number x ≡ m → Adds seq_cmp old mid (OfOne token_set m) → Adds seq_cmp mid new (IsOne token_set x) →
    Adds seq_cmp old new (OfOne token_set (m + 1))
ones_more token_set old mid new m x is a b =
    adds_then seq_cmp (OfOne token_set m) (IsOne token_set x) (OfOne token_set (m + 1)) old mid new a b
    (λ r s p q. less_at r s (p.0 ∷ []) (x ∷ []) p.2.1 q.1 (front_less p.0 x [] [] refl (let u = p.1 in omega arith)))
    (λ r h. elim (next_token h.0 x m is h.1) [ inl l ↦ inl (h.0, l, h.2) | inr same ↦ inr (subst (λ z. IsOne token_set z r) same h.2) ])
    (λ r p. (p.0, (let u = p.1 in omega arith), p.2))
    (λ r q. (x, (omega arith), q))

pub seconds_none : (token_set : TokenSet) (x : Token) (old : List (List Token)) → Adds seq_cmp old old (OfSecond token_set x 1)
seconds_none token_set x old = adds_none seq_cmp (OfSecond token_set x 1) old (λ r h. none_numbered h.0 h.1)

pub seconds_more : (token_set : TokenSet) (x : Token) (old mid new : List (List Token)) (m : ℕ) (y : Token) → token_number y ≡ m → Adds seq_cmp old mid (OfSecond token_set x m) → Adds seq_cmp mid new (OfPair token_set x y) →
    Adds seq_cmp old new (OfSecond token_set x (m + 1))
seconds_more token_set x old mid new m y is a b =
    adds_then seq_cmp (OfSecond token_set x m) (OfPair token_set x y) (OfSecond token_set x (m + 1)) old mid new a b
    (λ r s p q. less_at r s (x ∷ p.0 ∷ []) (x ∷ y ∷ []) p.2.0 q.0 (behind_less x (p.0 ∷ []) (y ∷ []) refl (front_less p.0 y [] [] refl (let u = p.1 in omega arith))))
    (λ r h. elim (next_token h.0 y m is h.1) [ inl l ↦ inl (h.0, l, h.2) | inr same ↦ inr (h.2.0 ∙ ap (λ z. x ∷ z ∷ []) same, h.2.1) ])
    (λ r p. (p.0, (let u = p.1 in omega arith), p.2))
    (λ r q. (y, (omega arith), q))

pub twos_none : (token_set : TokenSet) (old : List (List Token)) → Adds seq_cmp old old (OfTwo token_set 1)
twos_none token_set old = adds_none seq_cmp (OfTwo token_set 1) old (λ r h. none_numbered h.0 h.1)

pub twos_more : (token_set : TokenSet) (old mid new : List (List Token)) (m : ℕ) (x : Token) → token_number x ≡ m → Adds seq_cmp old mid (OfTwo token_set m) → Adds seq_cmp mid new (OfSecond token_set x (TOKEN_COUNT + 1)) →
    Adds seq_cmp old new (OfTwo token_set (m + 1))
twos_more token_set old mid new m x is a b =
    adds_then seq_cmp (OfTwo token_set m) (OfSecond token_set x (TOKEN_COUNT + 1)) (OfTwo token_set (m + 1)) old mid new a b
    (λ r s p q. less_at r s (p.0 ∷ p.2.0 ∷ []) (x ∷ q.0 ∷ []) p.2.2.0 q.2.0 (front_less p.0 x (p.2.0 ∷ []) (q.0 ∷ []) refl (let u = p.1 in omega arith)))
    (λ r h. elim (next_token h.0 x m is h.1) [ inl l ↦ inl (h.0, l, h.2) | inr same ↦ inr (subst (λ z. OfSecond token_set z (TOKEN_COUNT + 1) r) same h.2) ])
    (λ r p. (p.0, (let u = p.1 in omega arith), p.2))
    (λ r q. (x, (omega arith), q))

one_tested : (token_set : TokenSet) (x : Token) → IsTokenOf token_set x → IsTested token_set (x ∷ [])
one_tested token_set x of = record { some = omega arith; few = omega arith; start = start_at; last = last_at; tokens = All-cons (IsTokenOf token_set) x [] of (All-nil (IsTokenOf token_set)) }
  where
    start_at : (i : ℕ) → slice_get (x ∷ []) i ≡ Some Start → i ≡ 0
    start_at zero h = refl
    start_at (suc i) h = cc

    last_at : (i : ℕ) → slice_get (x ∷ []) i ≡ Some End → i + 1 ≡ 1
    last_at zero h = refl
    last_at (suc i) h = cc

two_tested : (token_set : TokenSet) (x y : Token) → IsTokenOf token_set x → IsTokenOf token_set y → x ≢ End → y ≢ Start → IsTested token_set (x ∷ y ∷ [])
two_tested token_set x y of of2 open1 close = record {
  some = omega arith;
  few = omega arith;
  start = start_at;
  last = last_at;
  tokens = All-cons (IsTokenOf token_set) x (y ∷ []) of (All-cons (IsTokenOf token_set) y [] of2 (All-nil (IsTokenOf token_set)));
}
  where
    start_at : (i : ℕ) → slice_get (x ∷ y ∷ []) i ≡ Some Start → i ≡ 0
    start_at zero h = refl
    start_at (suc zero) h = absurd (close (same_Some y Start h))
    start_at (suc (suc i)) h = cc

    last_at : (i : ℕ) → slice_get (x ∷ y ∷ []) i ≡ Some End → i + 1 ≡ 2
    last_at zero h = absurd (open1 (same_Some x End h))
    last_at (suc zero) h = refl
    last_at (suc (suc i)) h = cc

-- a pair that no literal has, and one that a literal may have
pair_open : (token_set : TokenSet) (x y : Token) → IsTested token_set (x ∷ y ∷ []) → (x ≢ End) × (y ≢ Start)
pair_open token_set x y t = (
  λ is. let e : 0 + 1 ≡ 2 = t.last 0 (ap Some is) in omega arith,
  λ is. let e : 1 ≡ 0 = t.start 1 (ap Some is) in omega arith,
)

pub pair_barred : (token_set : TokenSet) (x y : Token) (old : List (List Token)) → ((x ≢ End) × (y ≢ Start) → ⊥) → Adds seq_cmp old old (OfPair token_set x y)
pair_barred token_set x y old barred = adds_none seq_cmp (OfPair token_set x y) old (λ r h. barred (pair_open token_set x y (subst (IsTested token_set) h.0 h.1)))

-- both tokens of a literal are in the set
pair_of : (token_set : TokenSet) (x y : Token) (r : List Token) → OfPair token_set x y r → IsTokenOf token_set x × IsTokenOf token_set y
pair_of token_set x y r h =
    let tokens = (subst (IsTested token_set) h.0 h.1).tokens in
    (All-head (IsTokenOf token_set) x (y ∷ []) tokens, All-head (IsTokenOf token_set) y [] (All-tail (IsTokenOf token_set) x (y ∷ []) tokens))

pub pair_unknown : (token_set : TokenSet) (x y : Token) (old : List (List Token)) → (IsTokenOf token_set y → ⊥) → Adds seq_cmp old old (OfPair token_set x y)
pair_unknown token_set x y old not = adds_none seq_cmp (OfPair token_set x y) old (λ r h. not (pair_of token_set x y r h).1)

pub seconds_unknown : (token_set : TokenSet) (x : Token) (m : ℕ) (old : List (List Token)) → (IsTokenOf token_set x → ⊥) → Adds seq_cmp old old (OfSecond token_set x m)
seconds_unknown token_set x m old not = adds_none seq_cmp (OfSecond token_set x m) old (λ r h. not (pair_of token_set x h.0 r h.2).0)

pub pair_added : (token_set : TokenSet) (x y : Token) (old new : List (List Token)) → IsTokenOf token_set x → IsTokenOf token_set y → (x ≢ End) × (y ≢ Start) → new ≡ old ++ (x ∷ y ∷ []) ∷ [] → Adds seq_cmp old new (OfPair token_set x y)
pair_added token_set x y old new of of2 may e = adds_one seq_cmp (OfPair token_set x y) old new (x ∷ y ∷ []) e (refl, two_tested token_set x y of of2 may.0 may.1) (λ r h. h.0)

pub all_tested : (token_set : TokenSet) (old mid new : List (List Token)) → old ≡ [] → Adds seq_cmp old mid (OfOne token_set (TOKEN_COUNT + 1)) →
    Adds seq_cmp mid new (OfTwo token_set (TOKEN_COUNT + 1)) → Lists seq_cmp (IsTested token_set) new
all_tested token_set old mid new e a b = adds_all seq_cmp (IsTested token_set) old new e
    (adds_then seq_cmp (OfOne token_set (TOKEN_COUNT + 1)) (OfTwo token_set (TOKEN_COUNT + 1)) (IsTested token_set) old mid new a b
    (λ r s p q. less_at r s (p.0 ∷ []) (q.0 ∷ q.2.0 ∷ []) p.2.1 q.2.2.0 (shorter_less (p.0 ∷ []) (q.0 ∷ q.2.0 ∷ []) (omega arith)))
    split
    (λ r p. subst (IsTested token_set) (sym p.2.1) (one_tested token_set p.0 p.2.0))
    (λ r q. q.2.2.1))
  where
    below : (x : Token) → token_number x < TOKEN_COUNT + 1
    below x = let w : token_number x ≤ TOKEN_COUNT = number_within x in omega arith

    split : (r : List Token) → IsTested token_set r → OfOne token_set (TOKEN_COUNT + 1) r ⊎ OfTwo token_set (TOKEN_COUNT + 1) r
    split [] t = absurd (let w = t.some in omega arith)
    split (x ∷ []) t = inl (x, below x, (All-head (IsTokenOf token_set) x [] t.tokens, refl))
    split (x ∷ y ∷ []) t = inr (x, below x, (y, below y, (refl, t)))
    split (x ∷ y ∷ z ∷ r) t = absurd (let w = t.few in omega arith)
