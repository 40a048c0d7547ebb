-- The place of an item in a list that rises, looked for from the back, and the rows of a product.
use Rattle.std.proofs.Common.{◌≡◌, ◌⊎◌, ℕ, zero, suc, ◌+◌, ◌<◌, ◌≤◌, inl, inr, List, [], ◌∷◌, length, take, drop, get_or, refl, sym, subst, arith, drop-cons}
use Rattle.std.specs.Prelude.{Contains}
use Rattle.std.specs.Cmp.{IsTotalOrder}
use Rattle.std.specs.declared.cmp.Ordering.{Ordering}
use Rattle.std.specs.declared.cmp.Ordering.TheVariants.{Less, Greater}
use Rattle.std.specs.Ordering.{ordering_reverse}
use Rattle.std.proofs.lemmas.List.{take_all, take_more}
use Rattle.std.proofs.lemmas.List.Elements.{Contains-push_cases, Contains-append_left, Contains-append_right}
use Rattle.std.proofs.lemmas.Map.Lookups.{CmpEqualImpliesEq}
use Rattle.fill_best.specs.First.{Rises, IsPast, AreFirst, IsMade}
use Rattle.fill_best.proofs.Firsts.{first_more, first_joined, first_same}
use Rattle.fill_best.proofs.Items.{none_in, here, there, which, in_taken, head_before, tail_rises}

pub greater_turned : (o q : Ordering) → q ≡ ordering_reverse o → o ≡ Greater → q ≡ Less
greater_turned o q e h = let f = subst (λ p. q ≡ ordering_reverse p) h e in f

module _ {A : Type 0} (R : A → A → Ordering) (total : IsTotalOrder R) where
  -- with an item that comes before y all earlier ones do
  pub low_of : (n : ℕ) (xs : List A) (x y : A) → Rises R xs → n < length xs → x ≡ get_or xs n x → R x y ≡ Less → (z : A) → Contains (take (suc n) xs) z → R z y ≡ Less
  low_of n [] x y rising lt at before z c = absurd (omega arith)
  low_of zero (w ∷ xs) x y rising lt at before z c = elim (which w [] z c) [
    | inl e ↦ subst (λ v. R v y ≡ Less) e (subst (λ v. R v y ≡ Less) at before)
    | inr d ↦ absurd (none_in z d)
  ]
  low_of (suc n) (w ∷ xs) x y rising lt at before z c = elim (which w (take (suc n) xs) z c) [
    | inl e ↦ subst (λ v. R v y ≡ Less) e (total.trans w x y (head_before R w xs rising x (n, omega arith, sym at)) before)
    | inr d ↦ low_of n xs x y (tail_rises R w xs rising) (omega arith) at before z d
  ]

  pub high_of : (n : ℕ) (xs : List A) (x y : A) → n < length xs → x ≡ get_or xs n x → R y x ≡ Less → ((z : A) → Contains (drop (suc n) xs) z → R y z ≡ Less) →
      (z : A) → Contains (drop n xs) z → R y z ≡ Less
  high_of n xs x y lt at before later z c = elim (which (get_or xs n x) (drop (suc n) xs) z (subst (λ l. Contains l z) (drop-cons xs n x lt) c)) [
    | inl e ↦ subst (λ v. R y v ≡ Less) e (subst (λ v. R y v ≡ Less) at before)
    | inr d ↦ later z d
  ]

  pub past_all : (k n : ℕ) (xs : List A) (y : A) → k ≤ length xs → length xs ≤ n → ((z : A) → Contains (take n xs) z → R z y ≡ Less) → IsPast R k xs y
  past_all k n xs y full whole low = record { full = full; before = λ z c. low z (subst (λ l. Contains l z) (sym (take_all n xs whole)) c) }

  pub past_last : (k n : ℕ) (xs : List A) (x y : A) → Rises R xs → k ≤ length xs → suc n ≡ length xs → x ≡ get_or xs n x → R x y ≡ Less → IsPast R k xs y
  past_last k n xs x y rising full last at before = past_all k (suc n) xs y full (omega arith) (low_of n xs x y rising (omega arith) at before)

module _ {A : Type 0} where
  -- one item more at the end of the first ones
  pub taken_more : (xs : List A) (i : ℕ) (x z : A) → i < length xs → x ≡ get_or xs i x → Contains (take (i + 1) xs) z → Contains (take i xs) z ⊎ (x ≡ z)
  taken_more xs i x z lt at c =
      let all = subst (λ l. Contains l z) (take_more xs i x lt) c in
      elim (Contains-push_cases (take i xs) (get_or xs i x) z all) [ inl d ↦ inl d | inr e ↦ inr (subst (λ v. v ≡ z) (sym at) e) ]

  pub taken_old : (xs : List A) (i : ℕ) (x z : A) → i < length xs → Contains (take i xs) z → Contains (take (i + 1) xs) z
  taken_old xs i x z lt c = subst (λ l. Contains l z) (sym (take_more xs i x lt)) (Contains-append_left (take i xs) (get_or xs i x ∷ []) z c)

  pub taken_here : (xs : List A) (i : ℕ) (x : A) → i < length xs → x ≡ get_or xs i x → Contains (take (i + 1) xs) x
  taken_here xs i x lt at = subst (λ l. Contains l x) (sym (take_more xs i x lt))
      (Contains-append_right (take i xs) (get_or xs i x ∷ []) x (subst (λ v. Contains (v ∷ []) x) at (here x [])))

  pub taken_upto : (i j : ℕ) (xs : List A) (z : A) → i ≤ j → Contains (take i xs) z → Contains (take j xs) z
  taken_upto zero j xs z le c = absurd (none_in z c)
  taken_upto (suc i) j [] z le c = absurd (none_in z c)
  taken_upto (suc i) zero (x ∷ xs) z le c = absurd (omega arith)
  taken_upto (suc i) (suc j) (x ∷ xs) z le c = elim (which x (take i xs) z c) [
    | inl e ↦ subst (Contains (x ∷ take j xs)) e (here x (take j xs))
    | inr d ↦ there x (take j xs) z (taken_upto i j xs z (omega arith) d)
  ]

  pub taken_all : (xs : List A) (i : ℕ) (z : A) → length xs ≤ i → Contains xs z → Contains (take i xs) z
  taken_all xs i z past c = subst (λ l. Contains l z) (sym (take_all i xs past)) c

  pub taken_in : (xs : List A) (i : ℕ) (z : A) → length xs ≤ i → Contains (take i xs) z → Contains xs z
  taken_in xs i z past c = subst (λ l. Contains l z) (take_all i xs past) c

-- what one first part makes with each second part, and what all make
module _ {A B D : Type 0} (T : D → D → Ordering) (total : IsTotalOrder T) (exact : CmpEqualImpliesEq T) (f : A → B → D) (k : ℕ) (C : D → Type 0) where
  module _ (x : A) (ys : List B) where
    abbrev RowSoFar : ℕ → D → Type 0
    RowSoFar i z = C z ⊎ IsMade f (λ a. a ≡ x) (Contains (take i ys)) z

    pub row_none : (zs : List D) → AreFirst T C k zs → AreFirst T (RowSoFar 0) k zs
    row_none zs first = first_same T total exact C k zs first (RowSoFar 0) (λ z c. inl c) (λ z s. elim s [ inl c ↦ c | inr m ↦ absurd (none_in m.1 m.3) ])

    pub row_more : (i : ℕ) (y : B) (old new : List D) → i < length ys → y ≡ get_or ys i y → AreFirst T (RowSoFar i) k old →
        AreFirst T (λ z. Contains old z ⊎ (z ≡ f x y)) k new → AreFirst T (RowSoFar (i + 1)) k new
    row_more i y old new lt at before after =
        first_same T total exact (λ z. RowSoFar i z ⊎ (z ≡ f x y)) k new (first_joined T total exact (RowSoFar i) (λ z. z ≡ f x y) k old new before after) (RowSoFar (i + 1))
        (λ z s. elim s [
          | inl r ↦ elim r [ inl c ↦ inl c | inr m ↦ inr (m.0, m.1, m.2, taken_old ys i y m.1 lt m.3, m.4) ]
          | inr e ↦ inr (x, y, refl, taken_here ys i y lt at, sym e)
        ])
        (λ z s. elim s [
          | inl c ↦ inl (inl c)
          | inr m ↦ elim (taken_more ys i y m.1 lt at m.3) [
            | inl c ↦ inl (inr (m.0, m.1, m.2, c, m.4))
            | inr e ↦ inr (sym (subst (λ a. f a y ≡ z) m.2 (subst (λ b. f m.0 b ≡ z) (sym e) m.4)))
          ]
        ])

    pub row_end : (i : ℕ) (zs : List D) → length ys ≤ i → AreFirst T (RowSoFar i) k zs → AreFirst T (λ z. C z ⊎ IsMade f (λ a. a ≡ x) (Contains ys) z) k zs
    row_end i zs past first = first_same T total exact (RowSoFar i) k zs first (λ z. C z ⊎ IsMade f (λ a. a ≡ x) (Contains ys) z)
        (λ z s. elim s [ inl c ↦ inl c | inr m ↦ inr (m.0, m.1, m.2, taken_in ys i m.1 past m.3, m.4) ])
        (λ z s. elim s [ inl c ↦ inl c | inr m ↦ inr (m.0, m.1, m.2, taken_all ys i m.1 past m.3, m.4) ])

    -- the rest of the row is past what is kept with its next item
    module _ (S : B → B → Ordering) (orders : IsTotalOrder S) (right : (b d : B) → S b d ≡ Less → T (f x b) (f x d) ≡ Less) (rising : Rises S ys) where
      pub row_past : (i j : ℕ) (y : B) (zs : List D) → i < length ys → i ≤ j → y ≡ get_or ys i y → AreFirst T (RowSoFar j) k zs → IsPast T k zs (f x y) →
          AreFirst T (λ z. C z ⊎ IsMade f (λ a. a ≡ x) (Contains ys) z) k zs
      row_past i j y zs lt upto at first past = first_more T total exact (RowSoFar j) k zs first (λ z. C z ⊎ IsMade f (λ a. a ≡ x) (Contains ys) z)
          (λ z s. elim s [ inl c ↦ inl c | inr m ↦ inr (m.0, m.1, m.2, in_taken j ys m.1 m.3, m.4) ])
          (λ z s. elim s [
            | inl c ↦ inl (inl c)
            | inr m ↦ elim (split i ys y m.1 lt at rising m.3) [
              | inl c ↦ inl (inr (m.0, m.1, m.2, taken_upto i j ys m.1 upto c, m.4))
              | inr later ↦
                  let made : f x m.1 ≡ z = subst (λ a. f a m.1 ≡ z) m.2 m.4 in
                  inr (record {
                    full = past.full;
                    before = λ w c. subst (λ v. T w v ≡ Less) made (elim later [
                      | inl e ↦ subst (λ b. T w (f x b) ≡ Less) e (past.before w c)
                      | inr h ↦ total.trans w (f x y) (f x m.1) (past.before w c) (right y m.1 h)
                    ]);
                  })
            ]
          ])
        where
          split : (n : ℕ) (l : List B) (v b : B) → n < length l → v ≡ get_or l n v → Rises S l → Contains l b → Contains (take n l) b ⊎ ((v ≡ b) ⊎ (S v b ≡ Less))
          split n [] v b less there_is rises c = absurd (none_in b c)
          split zero (w ∷ l) v b less there_is rises c = elim (which w l b c) [
            | inl e ↦ inr (inl (subst (λ u. u ≡ b) (sym there_is) e))
            | inr d ↦ inr (inr (subst (λ u. S u b ≡ Less) (sym there_is) (head_before S w l rises b d)))
          ]
          split (suc n) (w ∷ l) v b less there_is rises c = elim (which w l b c) [
            | inl e ↦ inl (subst (Contains (w ∷ take n l)) e (here w (take n l)))
            | inr d ↦ elim (split n l v b (omega arith) there_is (tail_rises S w l rises) d) [ inl t ↦ inl (there w (take n l) b t) | inr later ↦ inr later ]
          ]

  module _ (xs : List A) (ys : List B) where
    abbrev RowsSoFar : ℕ → D → Type 0
    RowsSoFar i z = C z ⊎ IsMade f (Contains (take i xs)) (Contains ys) z

    pub rows_none : (zs : List D) → AreFirst T C k zs → AreFirst T (RowsSoFar 0) k zs
    rows_none zs first = first_same T total exact C k zs first (RowsSoFar 0) (λ z c. inl c) (λ z s. elim s [ inl c ↦ c | inr m ↦ absurd (none_in m.0 m.2) ])

    pub rows_more : (i : ℕ) (x : A) (old new : List D) → i < length xs → x ≡ get_or xs i x → AreFirst T (RowsSoFar i) k old →
        AreFirst T (λ z. Contains old z ⊎ IsMade f (λ a. a ≡ x) (Contains ys) z) k new → AreFirst T (RowsSoFar (i + 1)) k new
    rows_more i x old new lt at before after =
        first_same T total exact (λ z. RowsSoFar i z ⊎ IsMade f (λ a. a ≡ x) (Contains ys) z) k new
        (first_joined T total exact (RowsSoFar i) (IsMade f (λ a. a ≡ x) (Contains ys)) k old new before after) (RowsSoFar (i + 1))
        (λ z s. elim s [
          | inl r ↦ elim r [ inl c ↦ inl c | inr m ↦ inr (m.0, m.1, taken_old xs i x m.0 lt m.2, m.3, m.4) ]
          | inr m ↦ inr (m.0, m.1, subst (Contains (take (i + 1) xs)) (sym m.2) (taken_here xs i x lt at), m.3, m.4)
        ])
        (λ z s. elim s [
          | inl c ↦ inl (inl c)
          | inr m ↦ elim (taken_more xs i x m.0 lt at m.2) [
            | inl c ↦ inl (inr (m.0, m.1, c, m.3, m.4))
            | inr e ↦ inr (m.0, m.1, sym e, m.3, m.4)
          ]
        ])

    pub rows_end : (i : ℕ) (zs : List D) → length xs ≤ i → AreFirst T (RowsSoFar i) k zs → AreFirst T (λ z. C z ⊎ IsMade f (Contains xs) (Contains ys) z) k zs
    rows_end i zs past first = first_same T total exact (RowsSoFar i) k zs first (λ z. C z ⊎ IsMade f (Contains xs) (Contains ys) z)
        (λ z s. elim s [ inl c ↦ inl c | inr m ↦ inr (m.0, m.1, taken_in xs i m.0 past m.2, m.3, m.4) ])
        (λ z s. elim s [ inl c ↦ inl c | inr m ↦ inr (m.0, m.1, taken_all xs i m.0 past m.2, m.3, m.4) ])

-- a list that rises is the first of its own items
pub first_itself : {A : Type 0} (R : A → A → Ordering) (k : ℕ) (xs : List A) → Rises R xs → length xs ≤ k → AreFirst R (Contains xs) k xs
first_itself R k xs rising few = record { rising = rising; have = λ x c. c; few = few; others = λ y c. inl c }
