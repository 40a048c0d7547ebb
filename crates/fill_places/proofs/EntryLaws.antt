-- Lists of entries, put together.
use Rattle.std.proofs.Common.{◌≡◌, ℕ, zero, suc, ◌+◌, ◌<◌, ◌⊎◌, inl, inr, List, [], ◌∷◌, ◌++◌, length, refl, sym, ap, ◌∙◌, subst, arith, slice_get, Some, None, append_assoc}
use Rattle.std.proofs.lemmas.Option.{slice_get_within, same_Some}
use Rattle.std.proofs.lemmas.List.{append-nil}
use Rattle.std.specs.declared.cmp.Ordering.TheVariants.{Less}
use Rattle.fill_tokens.specs.Place.{seq_cmp}
use Rattle.fill_tokens.specs.declared.token.Token.{Token}
use Rattle.fill_places.specs.declared.entry.Entry.{Entry}
use Rattle.fill_places.specs.Marks.{AreMarks}
use Rattle.fill_places.specs.Entries.{HasSeq, Entries, AddsEntries, IsOnly}

get_cases : (xs ys : List Entry) (i : ℕ) (e : Entry) → slice_get (xs ++ ys) i ≡ Some e →
    ((i < length xs) × (slice_get xs i ≡ Some e)) ⊎ ((j : ℕ) × (i ≡ length xs + j) × (slice_get ys j ≡ Some e))
get_cases [] ys i e h = inr (i, omega arith, h)
get_cases (x ∷ xs) ys zero e h = inl (omega arith, h)
get_cases (x ∷ xs) ys (suc i) e h = elim (get_cases xs ys i e h) [
  | inl l ↦ inl ((let b : i < length xs = l.0 in omega arith), l.1)
  | inr r ↦ inr (r.0, (let b : i ≡ length xs + r.0 = r.1 in omega arith), r.2)
]

get_left : (xs ys : List Entry) (i : ℕ) (e : Entry) → slice_get xs i ≡ Some e → slice_get (xs ++ ys) i ≡ Some e
get_left [] ys i e h = cc
get_left (x ∷ xs) ys zero e h = h
get_left (x ∷ xs) ys (suc i) e h = get_left xs ys i e h

get_right : (xs ys : List Entry) (j : ℕ) (e : Entry) → slice_get ys j ≡ Some e → slice_get (xs ++ ys) (length xs + j) ≡ Some e
get_right [] ys j e h = let q : j ≡ length {A = Entry} [] + j = omega arith in subst (λ (n : ℕ). slice_get ys n ≡ Some e) q h
get_right (x ∷ xs) ys j e h =
    let q : suc (length xs + j) ≡ length (x ∷ xs) + j = omega arith in
    subst (λ (n : ℕ). slice_get (x ∷ (xs ++ ys)) n ≡ Some e) q (get_right xs ys j e h)

has_left : (xs ys : List Entry) (r : List Token) → HasSeq xs (length xs) r → HasSeq (xs ++ ys) (length (xs ++ ys)) r
has_left xs ys r h = let g = get_left xs ys h.0 h.1 h.3 in (h.0, h.1, slice_get_within (xs ++ ys) h.0 h.1 g, g, h.4)

has_right : (xs ys : List Entry) (r : List Token) → HasSeq ys (length ys) r → HasSeq (xs ++ ys) (length (xs ++ ys)) r
has_right xs ys r h = let g = get_right xs ys h.0 h.1 h.3 in (length xs + h.0, h.1, slice_get_within (xs ++ ys) (length xs + h.0) h.1 g, g, h.4)

module _ (M : List Token → ℕ → Type 0) (n : ℕ) where
  pub entries_append : (Q R S : List Token → Type 0) (xs ys : List Entry) → Entries M n Q xs → Entries M n R ys →
      ((r s : List Token) → Q r → R s → seq_cmp r s ≡ Less) →
      ((r : List Token) → S r → Q r ⊎ R r) → ((r : List Token) → Q r → S r) → ((r : List Token) → R r → S r) → Entries M n S (xs ++ ys)
  entries_append Q R S xs ys a b less split left right = record {
    each = λ i e h. elim (get_cases xs ys i e h) [
      | inl l ↦ (let x = a.each i e l.1 in (x.0, left e.seq x.1))
      | inr r ↦ (let x = b.each r.0 e r.2 in (x.0, right e.seq x.1))
    ];
    rising = λ i j d e lt h g. elim (get_cases xs ys i d h) [
      | inl l ↦ elim (get_cases xs ys j e g) [
        | inl m ↦ a.rising i j d e lt l.1 m.1
        | inr s ↦ less d.seq e.seq (a.each i d l.1).1 (b.each s.0 e s.2).1
      ]
      | inr r ↦ elim (get_cases xs ys j e g) [
        | inl m ↦ absurd (let p : j < length xs = m.0 in let q : i ≡ length xs + r.0 = r.1 in omega arith)
        | inr s ↦ (let p : j ≡ length xs + s.0 = s.1 in let q : i ≡ length xs + r.0 = r.1 in let w : r.0 < s.0 = omega arith in b.rising r.0 s.0 d e w r.2 s.2)
      ]
    ];
    full = λ r s k e. elim (split r s) [
      | inl q ↦ has_left xs ys r (a.full r q k e)
      | inr q ↦ has_right xs ys r (b.full r q k e)
    ];
  }

  pub entries_none : (Q : List Token → Type 0) → ((r : List Token) → Q r → (k : ℕ) → M r k → ⊥) → Entries M n Q []
  entries_none Q none = record {
    each = λ i e h. absurd (let x : None ≡ Some e = h in cc);
    rising = λ i j d e lt h g. absurd (let x : None ≡ Some d = h in cc);
    full = λ r q k e. absurd (none r q k e);
  }

  pub entries_one : (Q : List Token → Type 0) (e : Entry) → AreMarks (M e.seq) n e.at → Q e.seq → ((r : List Token) → Q r → r ≡ e.seq) → Entries M n Q (e ∷ [])
  entries_one Q e m q only = record {
    each = λ i d h. one_is i d h;
    rising = λ i j d f lt h g. absurd (let w = slice_get_within (e ∷ []) j f g in omega arith);
    full = λ r x k l. (0, e, omega arith, refl, sym (only r x));
  }
    where
      one_is : (i : ℕ) (d : Entry) → slice_get (e ∷ []) i ≡ Some d → AreMarks (M d.seq) n d.at × Q d.seq
      one_is zero d h = let s : e ≡ d = same_Some e d h in (subst (λ (z : Entry). AreMarks (M z.seq) n z.at) s m, subst (λ (z : Entry). Q z.seq) s q)
      one_is (suc i) d h = absurd (let x : None ≡ Some d = h in cc)

  pub entries_same : (Q R : List Token → Type 0) (es : List Entry) → ((r : List Token) → Q r → R r) → ((r : List Token) (k : ℕ) → R r → M r k → Q r) → Entries M n Q es → Entries M n R es
  entries_same Q R es f g a = record {
    each = λ i e h. let x = a.each i e h in (x.0, f e.seq x.1);
    rising = a.rising;
    full = λ r q k m. a.full r (g r k q m) k m;
  }

  pub grows_none : (Q : List Token → Type 0) (old : List Entry) → ((r : List Token) → Q r → (k : ℕ) → M r k → ⊥) → AddsEntries M n old old Q
  grows_none Q old none = ([], sym (append-nil old), entries_none Q none)

  pub grows_not : (s : List Token) (old : List Entry) → ((k : ℕ) → M s k → ⊥) → AddsEntries M n old old (IsOnly s)
  grows_not s old none = grows_none (IsOnly s) old (λ r e k m. none k (subst (λ z. M z k) e m))

  pub grows_one : (s : List Token) (e : Entry) (old new : List Entry) → new ≡ old ++ e ∷ [] → e.seq ≡ s → AreMarks (M s) n e.at → AddsEntries M n old new (IsOnly s)
  grows_one s e old new h q m = (
    e ∷ [],
    h,
    entries_one (IsOnly s) e (subst (λ z. AreMarks (M z) n e.at) (sym q) m) q (λ r o. o ∙ sym q),
  )

  pub grows_then : (Q R S : List Token → Type 0) (old mid new : List Entry) → AddsEntries M n old mid Q → AddsEntries M n mid new R →
      ((r s : List Token) → Q r → R s → seq_cmp r s ≡ Less) →
      ((r : List Token) → S r → Q r ⊎ R r) → ((r : List Token) → Q r → S r) → ((r : List Token) → R r → S r) → AddsEntries M n old new S
  grows_then Q R S old mid new a b less split left right = (
    a.0 ++ b.0,
    b.1 ∙ ap (λ z. z ++ b.0) a.1 ∙ append_assoc old a.0 b.0,
    entries_append Q R S a.0 b.0 a.2 b.2 less split left right,
  )

  pub grows_all : (Q : List Token → Type 0) (old new : List Entry) → old ≡ [] → AddsEntries M n old new Q → Entries M n Q new
  grows_all Q old new e a = subst (Entries M n Q) (sym (a.1 ∙ ap (λ z. z ++ a.0) e)) a.2
