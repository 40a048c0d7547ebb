-- What answers gain.
use Rattle.std.proofs.Common.{◌≡◌, ◌↔◌, ◌⊎◌, inl, inr, ⊎_elim, ℕ, ◌+◌, ◌<◌, ◌≤◌, List, [], ◌∷◌, ◌++◌, length, Bool, true, false, ◌||◌, Option, None, Some, IsTrue, nat_lt, slice_get, refl, sym, ap, subst, ◌∙◌, arith}
use Rattle.std.proofs.lemmas.Bool.{cases_lt, false≢true}
use Rattle.std.proofs.lemmas.Bool.Decides.{nat_tests}
use Rattle.std.proofs.lemmas.Option.{slice_get_within}
use Rattle.fill_arena.specs.Contents.{SomeIn}
use Rattle.fill_arena.proofs.Lists.{get_left, get_last, get_pushed}
use Rattle.fill_doubt.specs.Answers.{Have, Gains, GainsSome, Lack, AreJoined}

-- one of the first items has the property
abbrev pub SomeBelow : {A : Type 0} → ℕ → List A → (A → Type 0) → Type 0
SomeBelow {A} i xs P = (k : ℕ) × (x : A) × (k < i) × (slice_get xs k ≡ Some x) × P x

module _ {A : Type 0} where
  pub gains_none : (old R : Option A → Type 0) → ((o : Option A) → ¬ (R o)) → Gains old old R
  gains_none old R none o = ((λ h. inl h), (λ h. ⊎_elim (λ l. l) (λ r. absurd (none o r)) h))

  pub gains_then : (a b c R S : Option A → Type 0) → Gains a b R → Gains b c S → Gains a c (λ o. R o ⊎ S o)
  gains_then a b c R S first second o = (
    (λ h. ⊎_elim (λ l. ⊎_elim (λ x. inl x) (λ r. inr (inl r)) ((first o).0 l)) (λ s. inr (inr s)) ((second o).0 h)),
    (λ h. ⊎_elim (λ x. (second o).1 (inl ((first o).1 (inl x)))) (λ rs. ⊎_elim (λ r. (second o).1 (inl ((first o).1 (inr r)))) (λ s. (second o).1 (inr s)) rs) h),
  )

  pub gains_alike : (a b R S : Option A → Type 0) → ((o : Option A) → R o ↔ S o) → Gains a b R → Gains a b S
  gains_alike a b R S same gains o = (
    (λ h. ⊎_elim (λ l. inl l) (λ r. inr ((same o).0 r)) ((gains o).0 h)),
    (λ h. (gains o).1 (⊎_elim (λ l. inl l) (λ s. inr ((same o).1 s)) h)),
  )

  pub some_more : (a b c R : Option A → Type 0) → GainsSome a b R → GainsSome b c R → GainsSome a c R
  some_more a b c R first second o h = ⊎_elim (λ l. first o l) (λ r. inr r) (second o h)

  pub some_into : (a b R S : Option A → Type 0) → ((o : Option A) → R o → S o) → GainsSome a b R → GainsSome a b S
  some_into a b R S into gains o h = ⊎_elim (λ l. inl l) (λ r. inr (into o r)) (gains o h)

  pub gains_some : (a b R : Option A → Type 0) → Gains a b R → GainsSome a b R
  gains_some a b R gains o h = (gains o).0 h

  pub some_all : (a b R : Option A → Type 0) → ((o : Option A) → ¬ (a o)) → GainsSome a b R → (o : Option A) → b o → R o
  some_all a b R none gains o h = ⊎_elim (λ l. absurd (none o l)) (λ r. r) (gains o h)

  -- where there were none before
  pub gains_all : (a b R : Option A → Type 0) → ((o : Option A) → ¬ (a o)) → Gains a b R → (o : Option A) → b o ↔ R o
  gains_all a b R none gains o = ((λ h. ⊎_elim (λ l. absurd (none o l)) (λ r. r) ((gains o).0 h)), (λ r. (gains o).1 (inr r)))

  module _ {X : Type 0} (F : X → Option A → Type 0) (xs : List X) where
    pub below_start : (a : Option A → Type 0) → Gains a a (λ o. SomeBelow 0 xs (λ x. F x o))
    below_start a = gains_none a (λ o. SomeBelow 0 xs (λ x. F x o)) (λ o h. let lt = h.2 in absurd (omega arith))

    pub below_more : (a b c : Option A → Type 0) (i : ℕ) (x : X) → slice_get xs i ≡ Some x → Gains a b (λ o. SomeBelow i xs (λ y. F y o)) → Gains b c (F x) → Gains a c (λ o. SomeBelow (i + 1) xs (λ y. F y o))
    below_more a b c i x at first second =
        gains_alike a c (λ o. SomeBelow i xs (λ y. F y o) ⊎ F x o) (λ o. SomeBelow (i + 1) xs (λ y. F y o)) (λ o. (
          (λ h. ⊎_elim (λ l. let lt = l.2 in (l.0, l.1, omega arith, l.3, l.4)) (λ r. (i, x, omega arith, at, r)) h),
          (λ h. ⊎_elim (λ less. inl (h.0, h.1, less, h.3, h.4)) (λ past.
              let lt = h.2 in
              let same : h.0 ≡ i = omega arith in
              let there : slice_get xs i ≡ Some h.1 = subst (λ j. slice_get xs j ≡ Some h.1) same h.3 in
              let one : h.1 ≡ x = cc in
              inr (subst (λ y. F y o) one h.4)) (cases_lt h.0 i)),
        )) (gains_then a b c (λ o. SomeBelow i xs (λ y. F y o)) (F x) first second)

    pub below_some : (a b : Option A → Type 0) (i : ℕ) → Gains a b (λ o. SomeBelow i xs (λ y. F y o)) → GainsSome a b (λ o. SomeIn (λ y. F y o) xs)
    below_some a b i gains o h = ⊎_elim (λ l. inl l) (λ r. inr (r.1, (r.0, r.3), r.4)) ((gains o).0 h)

    pub below_end : (a b : Option A → Type 0) (i : ℕ) → length xs ≤ i → Gains a b (λ o. SomeBelow i xs (λ y. F y o)) → Gains a b (λ o. SomeIn (λ y. F y o) xs)
    below_end a b i past gains = gains_alike a b (λ o. SomeBelow i xs (λ y. F y o)) (λ o. SomeIn (λ y. F y o) xs) (λ o. (
      (λ h. (h.1, (h.0, h.3), h.4)),
      (λ h. let within = slice_get_within xs h.1.0 h.0 h.1.1 in (h.1.0, h.0, omega arith, h.1.1, h.2)),
    )) gains

module _ {A B : Type 0} (f : A → B) where
  pub have_empty : (xs : List A) (n : Bool) → xs ≡ [] → n ≡ false → (o : Option B) → ¬ (Have f xs n o)
  have_empty xs n nil not None h = false≢true (sym not ∙ h)
  have_empty xs n nil not (Some b) h = none_at xs nil
    where
      none_at : (ys : List A) → ys ≡ [] → ⊥
      none_at ys e = let w = slice_get_within xs h.1.0 h.0 h.1.1 in let l = ap length nil in omega arith

  pub have_start : (xs : List A) (n m : Bool) → xs ≡ [] → n ≡ m → (o : Option B) → Have f xs n o ↔ ((o ≡ None) × (m ≡ true))
  have_start xs n m nil same None = ((λ h. (refl, sym same ∙ h)), (λ h. same ∙ h.1))
  have_start xs n m nil same (Some b) =
      ((λ h. let w = slice_get_within xs h.1.0 h.0 h.1.1 in let l = ap length nil in absurd (omega arith)), (λ h. absurd (let e = h.0 in cc)))

  pub have_pushed : (xs ys : List A) (n m : Bool) (x : A) → ys ≡ xs ++ x ∷ [] → m ≡ n → Gains (Have f xs n) (Have f ys m) (λ o. o ≡ Some (f x))
  have_pushed xs ys n m x is same None = ((λ h. inl (sym same ∙ h)), (λ h. ⊎_elim (λ l. same ∙ l) (λ r. absurd cc) h))
  have_pushed xs ys n m x is same (Some b) = (
    (λ h.
        let at : slice_get (xs ++ x ∷ []) h.1.0 ≡ Some h.0 = subst (λ zs. slice_get zs h.1.0 ≡ Some h.0) is h.1.1 in
        ⊎_elim (λ l. inl (h.0, (h.1.0, l.1), h.2)) (λ r. inr (ap Some (sym h.2 ∙ ap f (sym r.1)))) (get_pushed xs x h.1.0 h.0 at)),
    (λ h. ⊎_elim
        (λ l.
        let w = slice_get_within xs l.1.0 l.0 l.1.1 in
        (l.0, (l.1.0, subst (λ zs. slice_get zs l.1.0 ≡ Some l.0) (sym is) (get_left xs (x ∷ []) l.1.0 w ∙ l.1.1)), l.2))
        (λ r. let e : f x ≡ b = cc in (x, (length xs, subst (λ zs. slice_get zs (length xs) ≡ Some x) (sym is) (get_last xs x)), e)) h),
  )

  -- a mark for none where the test is true
  pub have_marked : (xs : List A) (n m b : Bool) → m ≡ (n || b) → Gains (Have f xs n) (Have f xs m) (λ o. (o ≡ None) × (b ≡ true))
  have_marked xs n m b is None = ((λ h. ⊎_elim (λ l. inl l) (λ r. inr (refl, r)) (front n (sym is ∙ h))), (λ h. is ∙ ⊎_elim (λ l. ap (λ c. c || b) l) (λ r. back n r.1) h))
    where
      front : (c : Bool) → (c || b) ≡ true → (c ≡ true) ⊎ (b ≡ true)
      front true e = inl refl
      front false e = inr e

      back : (c : Bool) → b ≡ true → (c || b) ≡ true
      back true e = refl
      back false e = e
  have_marked xs n m b is (Some v) = ((λ h. inl h), (λ h. ⊎_elim (λ l. l) (λ r. absurd cc) h))

  pub have_none : (xs : List A) (n : Bool) → Gains (Have f xs n) (Have f xs true) (λ o. o ≡ None)
  have_none xs n None = ((λ h. inr refl), (λ h. refl))
  have_none xs n (Some v) = ((λ h. inl h), (λ h. ⊎_elim (λ l. l) (λ r. absurd cc) h))

  pub have_there : (xs : List A) (n : Bool) (b : B) → Have f xs n (Some b) → Gains (Have f xs n) (Have f xs n) (λ o. o ≡ Some b)
  have_there xs n b there o = ((λ h. inl h), (λ h. ⊎_elim (λ l. l) (λ r. subst (Have f xs n) (sym r) there) h))

  pub have_first : (xs : List A) (n : Bool) → 0 < length xs → (o : Option B) × Have f xs n o
  have_first [] n h = absurd (omega arith)
  have_first (x ∷ xs) n h = (Some (f x), (x, (0, refl), refl))

  pub have_some : (xs : List A) (n : Bool) (o : Option B) → Have f xs n o → (n ≡ true) ⊎ (0 < length xs)
  have_some xs n None h = inl h
  have_some xs n (Some b) h = let w = slice_get_within xs h.1.0 h.0 h.1.1 in inr (omega arith)

  pub have_positive : (xs : List A) (n : Bool) (k : ℕ) → k ≡ length xs → n ≡ false → IsTrue (nat_lt 0 k) ↔ ((o : Option B) × Have f xs n o)
  have_positive xs n k size not = (
    (λ h. let some : 0 < k = grind (arith, nat_tests) in have_first xs n (omega arith)),
    (λ h. ⊎_elim (λ l. absurd (false≢true (sym not ∙ l))) (λ r. let some : 0 < k = omega arith in grind (arith, nat_tests)) (have_some xs n h.0 h.1)),
  )

  -- one mark more
  pub have_lacks : (xs : List A) (n : Bool) → (b : Bool) → b ≡ true → Gains (Have f xs n) (Have f xs true) (λ o. (o ≡ None) × (b ≡ true))
  have_lacks xs n b is None = ((λ h. inr (refl, is)), (λ h. refl))
  have_lacks xs n b is (Some v) = ((λ h. inl h), (λ h. ⊎_elim (λ l. l) (λ r. absurd (let e = r.0 in cc)) h))

  pub have_lacks_none : (xs : List A) (n : Bool) → (b : Bool) → b ≡ false → Gains (Have f xs n) (Have f xs n) (λ o. (o ≡ None) × (b ≡ true))
  have_lacks_none xs n b is = gains_none (Have f xs n) (λ o. (o ≡ None) × (b ≡ true)) (λ o h. false≢true (sym is ∙ h.1))

  pub have_same : (xs ys : List A) (n m : Bool) → xs ≡ ys → n ≡ m → (Q : Option B → Type 0) → ((o : Option B) → Have f ys m o ↔ Q o) → (o : Option B) → Have f xs n o ↔ Q o
  have_same xs ys n m e d Q exact o =
      subst (λ zs. Have f zs n o ↔ Q o) (sym e) (subst (λ k. Have f ys k o ↔ Q o) (sym d) (exact o))

-- two sides joined: a lack on one of them, or values of both
module _ {A B C : Type 0} (join : Option A → Option B → Option C) (left : (b : Option B) → join None b ≡ None) (right : (a : Option A) → join a None ≡ None) (L : Option A → Type 0) (R : Option B → Type 0) where
  pub joined_split : (o : Option C) → ((o ≡ None) × Lack L R) ⊎ ((a : A) × (b : B) × L (Some a) × R (Some b) × (o ≡ join (Some a) (Some b))) ↔ AreJoined join L R o
  joined_split o = (
    (λ h. ⊎_elim
        (λ l. ⊎_elim (λ x. (None, x.1.0, x.0, x.1.1, l.0 ∙ sym (left x.1.0))) (λ y. (y.1.0, None, y.1.1, y.0, l.0 ∙ sym (right y.1.0))) l.1)
        (λ r. (Some r.0, Some r.1, r.2, r.3, r.4)) h),
    (λ h. back h.0 h.1 h.2 h.3 h.4),
  )
    where
      back : (a : Option A) (b : Option B) → L a → R b → o ≡ join a b → ((o ≡ None) × Lack L R) ⊎ ((x : A) × (y : B) × L (Some x) × R (Some y) × (o ≡ join (Some x) (Some y)))
      back None b l r e = inl (e ∙ left b, inl (l, (b, r)))
      back (Some a) None l r e = inl (e ∙ right (Some a), inr (r, (Some a, l)))
      back (Some a) (Some b) l r e = inr (a, b, l, r, e)
