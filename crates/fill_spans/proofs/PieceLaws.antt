-- Lists of pieces, put together.
use Rattle.std.proofs.Common.{◌≡◌, ℕ, zero, suc, ◌+◌, ◌<◌, ◌⊎◌, inl, inr, List, [], ◌∷◌, ◌++◌, length, get_or, slice_get, slice_index, Some, None, refl, sym, ap, ◌∙◌, subst, arith}
use Rattle.std.proofs.lemmas.Option.{same_Some, slice_get_within, slice_get-get_or}
use Rattle.std.proofs.lemmas.Bool.{cases_order}
use Rattle.std.proofs.lemmas.List.{length_push}
use Rattle.std.proofs.lemmas.List.Quantifiers.{all_pairs_push}
use Rattle.fill_tokens.specs.Span.{KindSpans}
use Rattle.fill_tokens.specs.declared.kind.Kind.TheVariants.{Single}
use Rattle.fill_spans.specs.Pieces.{HasPiece, AreExactly}
use Rattle.fill_spans.specs.Read.{SinglesBelow}

module _ {A : Type 0} where
  -- an item of the list with one more at the end is one of the list, or the last
  pub push_cases : (xs : List A) (x y : A) (i : ℕ) → slice_get (xs ++ x ∷ []) i ≡ Some y → (slice_get xs i ≡ Some y) ⊎ ((i ≡ length xs) × (x ≡ y))
  push_cases [] x y zero h = inr (refl, same_Some x y h)
  push_cases [] x y (suc i) h = absurd (let e : None ≡ Some y = h in cc)
  push_cases (z ∷ zs) x y zero h = inl h
  push_cases (z ∷ zs) x y (suc i) h = elim (push_cases zs x y i h) [ inl l ↦ inl l | inr r ↦ inr (ap suc r.0, r.1) ]

  pub get_left : (xs ys : List A) (i : ℕ) (x : A) → slice_get xs i ≡ Some x → slice_get (xs ++ ys) i ≡ Some x
  get_left [] ys i x h = absurd (let e : None ≡ Some x = h in cc)
  get_left (z ∷ zs) ys zero x h = h
  get_left (z ∷ zs) ys (suc i) x h = get_left zs ys i x h

  pub get_last : (xs : List A) (x : A) → slice_get (xs ++ x ∷ []) (length xs) ≡ Some x
  get_last [] x = refl
  get_last (z ∷ zs) x = get_last zs x

nothing_at : (i a : ℕ) → slice_get {X = ℕ} [] i ≡ Some a → ⊥
nothing_at i a h = let e : None ≡ Some a = h in cc

pub none_are : (S : ℕ → ℕ → Type 0) (xs ys : List ℕ) → xs ≡ [] → ys ≡ [] → ((a b : ℕ) → S a b → ⊥) → AreExactly S xs ys
none_are S xs ys e f none = subst (λ z. AreExactly S z ys) (sym e) (subst (λ z. AreExactly S [] z) (sym f) record {
  paired = refl;
  exact = λ a b. (λ h. absurd (nothing_at h.0 a h.1), λ s. absurd (none a b s));
  starts_rise = λ i j d l w. absurd (omega arith);
  ends_rise = λ i j d l w. absurd (omega arith);
})

pub same_are : (S T : ℕ → ℕ → Type 0) (xs ys : List ℕ) → ((a b : ℕ) → S a b → T a b) → ((a b : ℕ) → T a b → S a b) → AreExactly S xs ys → AreExactly T xs ys
same_are S T xs ys f g are = record {
  paired = are.paired;
  exact = λ a b. (λ h. f a b ((are.exact a b).0 h), λ t. (are.exact a b).1 (g a b t));
  starts_rise = are.starts_rise;
  ends_rise = are.ends_rise;
}

-- the piece of a place
pub piece_at : (S : ℕ → ℕ → Type 0) (xs ys : List ℕ) → AreExactly S xs ys → (i d : ℕ) → i < length xs → S (get_or xs i d) (get_or ys i d)
piece_at S xs ys are i d h =
    let e = are.paired in
    (are.exact (get_or xs i d) (get_or ys i d)).0 (i, slice_get-get_or xs i d h, slice_get-get_or ys i d (omega arith))

-- one piece more, after all others
module _ (S T : ℕ → ℕ → Type 0) (xs ys : List ℕ) (a b : ℕ) (are : AreExactly S xs ys) (t : T a b) (low : (x y : ℕ) → S x y → (x < a) × (y < b)) (old : (x y : ℕ) → S x y → T x y)
    (split : (x y : ℕ) → T x y → S x y ⊎ ((x ≡ a) × (y ≡ b))) where
  piece_of : (x y : ℕ) → HasPiece (xs ++ a ∷ []) (ys ++ b ∷ []) x y → T x y
  piece_of x y h = elim (push_cases xs a x h.0 h.1) [
    | inl l ↦
        let lt = slice_get_within xs h.0 x l in
        elim (push_cases ys b y h.0 h.2) [
          | inl m ↦ old x y ((are.exact x y).0 (h.0, l, m))
          | inr n ↦ absurd (let e = n.0 in let p = are.paired in omega arith)
        ]
    | inr l ↦ elim (push_cases ys b y h.0 h.2) [
      | inl m ↦ absurd (let lt = slice_get_within ys h.0 y m in let e = l.0 in let p = are.paired in omega arith)
      | inr n ↦ subst (λ z. T x z) n.1 (subst (λ z. T z b) l.1 t)
    ]
  ]

  has_piece : (x y : ℕ) → T x y → HasPiece (xs ++ a ∷ []) (ys ++ b ∷ []) x y
  has_piece x y h = elim (split x y h) [
    | inl s ↦ let p = (are.exact x y).1 s in (p.0, get_left xs (a ∷ []) p.0 x p.1, get_left ys (b ∷ []) p.0 y p.2)
    | inr e ↦ (
      length xs,
      get_last xs a ∙ ap Some (sym e.0),
      ap (slice_get (ys ++ b ∷ [])) are.paired ∙ get_last ys b ∙ ap Some (sym e.1),
    )
  ]

  one_more : AreExactly T (xs ++ a ∷ []) (ys ++ b ∷ [])
  one_more = record {
    paired = length_push xs a ∙ ap (λ n. n + 1) are.paired ∙ sym (length_push ys b);
    exact = λ x y. (piece_of x y, has_piece x y);
    starts_rise = all_pairs_push (λ x y. x < y) xs a are.starts_rise (λ k d h. (low (get_or xs k d) (get_or ys k d) (piece_at S xs ys are k d h)).0);
    ends_rise = all_pairs_push (λ x y. x < y) ys b are.ends_rise (λ k d h. (low (get_or xs k d) (get_or ys k d) (piece_at S xs ys are k d (let p = are.paired in omega arith))).1);
  }

  pub piece_more : (xs2 ys2 : List ℕ) → xs2 ≡ xs ++ a ∷ [] → ys2 ≡ ys ++ b ∷ [] → AreExactly T xs2 ys2
  piece_more xs2 ys2 e f = subst (λ z. AreExactly T z ys2) (sym e) (subst (λ z. AreExactly T (xs ++ a ∷ []) z) (sym f) one_more)

-- one piece alone
pub only_are : (T : ℕ → ℕ → Type 0) (a b : ℕ) (xs ys xs2 ys2 : List ℕ) → xs ≡ [] → ys ≡ [] → xs2 ≡ xs ++ a ∷ [] → ys2 ≡ ys ++ b ∷ [] → T a b → ((x y : ℕ) → T x y → (x ≡ a) × (y ≡ b)) → AreExactly T xs2 ys2
only_are T a b xs ys xs2 ys2 e f g h t only =
    piece_more (λ x y. ⊥) T xs ys a b (none_are (λ x y. ⊥) xs ys e f (λ x y s. s)) t (λ x y s. absurd s) (λ x y s. absurd s) (λ x y s. inr (only x y s)) xs2 ys2 g h

-- the pieces of one character
pub single_more : (c : ℕ) (t : List ℕ) (i : ℕ) (xs ys xs2 ys2 : List ℕ) → i < length t → slice_index t i ≡ c → xs2 ≡ xs ++ i ∷ [] → ys2 ≡ ys ++ (i + 1) ∷ [] →
    AreExactly (SinglesBelow c t i) xs ys → AreExactly (SinglesBelow c t (i + 1)) xs2 ys2
single_more c t i xs ys xs2 ys2 lt is e f are =
    piece_more (SinglesBelow c t i) (SinglesBelow c t (i + 1)) xs ys i (i + 1) are ((lt, is, refl), omega arith)
    (λ x y s. let u = s.1 in let v = s.0.2 in (u, omega arith))
    (λ x y s. (s.0, (let u = s.1 in omega arith)))
    (λ x y s. elim (cases_order x i) [
      | inl same ↦ inr (same, s.0.2 ∙ ap (λ n. n + 1) same)
      | inr o ↦ elim o [ inl l ↦ inl (s.0, l) | inr g ↦ absurd (let u = s.1 in omega arith) ]
    ])
    xs2 ys2 e f

pub single_not : (c : ℕ) (t : List ℕ) (i : ℕ) (xs ys : List ℕ) → (slice_index t i ≡ c → ⊥) → AreExactly (SinglesBelow c t i) xs ys → AreExactly (SinglesBelow c t (i + 1)) xs ys
single_not c t i xs ys not are =
    same_are (SinglesBelow c t i) (SinglesBelow c t (i + 1)) xs ys (λ x y s. (s.0, (let u = s.1 in omega arith)))
    (λ x y s. elim (cases_order x i) [
      | inl same ↦ absurd (not (ap (slice_index t) (sym same) ∙ s.0.1))
      | inr o ↦ elim o [ inl l ↦ (s.0, l) | inr g ↦ absurd (let u = s.1 in omega arith) ]
    ]) are

pub singles_none : (c : ℕ) (t : List ℕ) (xs ys : List ℕ) → xs ≡ [] → ys ≡ [] → AreExactly (SinglesBelow c t 0) xs ys
singles_none c t xs ys e f = none_are (SinglesBelow c t 0) xs ys e f (λ a b s. let u = s.1 in omega arith)

pub singles_all : (c : ℕ) (t : List ℕ) (i : ℕ) (xs ys : List ℕ) → i ≡ length t → AreExactly (SinglesBelow c t i) xs ys → AreExactly (KindSpans (Single c) t) xs ys
singles_all c t i xs ys e = same_are (SinglesBelow c t i) (KindSpans (Single c) t) xs ys (λ x y s. s.0) (λ x y s. (s, (let u = s.0 in omega arith)))
