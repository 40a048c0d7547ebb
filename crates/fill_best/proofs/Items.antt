-- Items of lists, and lists that rise.
use Rattle.std.proofs.Common.{◌≡◌, ◌⊎◌, ℕ, zero, suc, inl, inr, List, [], ◌∷◌, ◌++◌, length, map, take, drop, get_or, refl, sym, subst, arith}
use Rattle.std.specs.Prelude.{Contains}
use Rattle.std.specs.declared.cmp.Ordering.{Ordering}
use Rattle.std.specs.declared.cmp.Ordering.TheVariants.{Less}
use Rattle.std.proofs.lemmas.List.Elements.{Contains-get_or}
use Rattle.std.proofs.lemmas.List.Kept.{AllPairs-cons}
use Rattle.fill_best.specs.First.{Rises}

module _ {A : Type 0} where
  pub none_in : (x : A) → ¬ (Contains {X = A} [] x)
  none_in x c = let w = c.1 in omega arith

  pub here : (x : A) (xs : List A) → Contains (x ∷ xs) x
  here x xs = (0, omega arith, refl)

  pub there : (x : A) (xs : List A) (y : A) → Contains xs y → Contains (x ∷ xs) y
  there x xs y c = (suc c.0, (let w = c.1 in omega arith), c.2)

  pub which : (x : A) (xs : List A) (y : A) → Contains (x ∷ xs) y → (x ≡ y) ⊎ Contains xs y
  which x xs y (zero, w, e) = inl e
  which x xs y (suc k, w, e) = inr (k, omega arith, e)

  pub in_taken : (k : ℕ) (xs : List A) (y : A) → Contains (take k xs) y → Contains xs y
  in_taken zero xs y c = absurd (none_in y c)
  in_taken (suc k) [] y c = absurd (none_in y c)
  in_taken (suc k) (x ∷ xs) y c = elim (which x (take k xs) y c) [
    | inl e ↦ subst (Contains (x ∷ xs)) e (here x xs)
    | inr d ↦ there x xs y (in_taken k xs y d)
  ]

  -- the items where one more was put in
  pub in_inserted : (n : ℕ) (xs : List A) (y z : A) → Contains (take n xs ++ y ∷ drop n xs) z → Contains xs z ⊎ (z ≡ y)
  in_inserted zero xs y z c = elim (which y xs z c) [ inl e ↦ inr (sym e) | inr d ↦ inl d ]
  in_inserted (suc n) [] y z c = elim (which y [] z c) [ inl e ↦ inr (sym e) | inr d ↦ inl d ]
  in_inserted (suc n) (x ∷ xs) y z c = elim (which x (take n xs ++ y ∷ drop n xs) z c) [
    | inl e ↦ inl (subst (Contains (x ∷ xs)) e (here x xs))
    | inr d ↦ elim (in_inserted n xs y z d) [ inl f ↦ inl (there x xs z f) | inr e ↦ inr e ]
  ]

  pub inserted_new : (n : ℕ) (xs : List A) (y : A) → Contains (take n xs ++ y ∷ drop n xs) y
  inserted_new zero xs y = here y xs
  inserted_new (suc n) [] y = here y []
  inserted_new (suc n) (x ∷ xs) y = there x (take n xs ++ y ∷ drop n xs) y (inserted_new n xs y)

  pub inserted_old : (n : ℕ) (xs : List A) (y z : A) → Contains xs z → Contains (take n xs ++ y ∷ drop n xs) z
  inserted_old zero xs y z c = there y xs z c
  inserted_old (suc n) [] y z c = absurd (none_in z c)
  inserted_old (suc n) (x ∷ xs) y z c = elim (which x xs z c) [
    | inl e ↦ subst (Contains (x ∷ take n xs ++ y ∷ drop n xs)) e (here x (take n xs ++ y ∷ drop n xs))
    | inr d ↦ there x (take n xs ++ y ∷ drop n xs) z (inserted_old n xs y z d)
  ]

module _ {A B : Type 0} (f : A → B) where
  pub in_mapped : (xs : List A) (y : B) → Contains (map f xs) y → (x : A) × Contains xs x × (f x ≡ y)
  in_mapped [] y c = absurd (none_in y c)
  in_mapped (x ∷ xs) y c = elim (which (f x) (map f xs) y c) [
    | inl e ↦ (x, here x xs, e)
    | inr d ↦ let other = in_mapped xs y d in (other.0, there x xs other.0 other.1, other.2)
  ]

  pub mapped_in : (xs : List A) (x : A) → Contains xs x → Contains (map f xs) (f x)
  mapped_in [] x c = absurd (none_in x c)
  mapped_in (y ∷ xs) x c = elim (which y xs x c) [
    | inl e ↦ subst (λ z. Contains (f y ∷ map f xs) (f z)) e (here (f y) (map f xs))
    | inr d ↦ there (f y) (map f xs) (f x) (mapped_in xs x d)
  ]

module _ {A : Type 0} (R : A → A → Ordering) where
  pub head_before : (x : A) (xs : List A) → Rises R (x ∷ xs) → (y : A) → Contains xs y → R x y ≡ Less
  head_before x xs rising y c = subst (λ z. R x z ≡ Less) c.2 (rising zero (suc c.0) y (omega arith) (let w = c.1 in omega arith))

  pub tail_rises : (x : A) (xs : List A) → Rises R (x ∷ xs) → Rises R xs
  tail_rises x xs rising = λ i j d l w. rising (suc i) (suc j) d (omega arith) (omega arith)

  pub none_rises : Rises R []
  none_rises = λ i j d l w. absurd (omega arith)

  pub more_rises : (x : A) (xs : List A) → ((y : A) → Contains xs y → R x y ≡ Less) → Rises R xs → Rises R (x ∷ xs)
  more_rises x xs before rising = AllPairs-cons (λ a b. R a b ≡ Less) x xs (λ k d l. before (get_or xs k d) (Contains-get_or xs k d l)) rising

  pub taken_rises : (k : ℕ) (xs : List A) → Rises R xs → Rises R (take k xs)
  taken_rises zero xs rising = none_rises
  taken_rises (suc k) [] rising = none_rises
  taken_rises (suc k) (x ∷ xs) rising =
      more_rises x (take k xs) (λ y c. head_before x xs rising y (in_taken k xs y c)) (taken_rises k xs (tail_rises x xs rising))

  pub inserted_rises : (n : ℕ) (xs : List A) (y : A) → Rises R xs → ((z : A) → Contains (take n xs) z → R z y ≡ Less) →
      ((z : A) → Contains (drop n xs) z → R y z ≡ Less) → Rises R (take n xs ++ y ∷ drop n xs)
  inserted_rises zero xs y rising low high = more_rises y xs high rising
  inserted_rises (suc n) [] y rising low high = more_rises y [] high rising
  inserted_rises (suc n) (x ∷ xs) y rising low high =
      more_rises x (take n xs ++ y ∷ drop n xs)
      (λ z c. elim (in_inserted n xs y z c) [
        | inl d ↦ head_before x xs rising z d
        | inr e ↦ subst (λ w. R x w ≡ Less) (sym e) (low x (here x (take n xs)))
      ])
      (inserted_rises n xs y (tail_rises x xs rising) (λ z c. low z (there x (take n xs) z c)) high)

module _ {A B : Type 0} (R : A → A → Ordering) (S : B → B → Ordering) (f : A → B) where
  pub mapped_rises : (xs : List A) → ((x y : A) → Contains xs x → Contains xs y → R x y ≡ Less → S (f x) (f y) ≡ Less) → Rises R xs → Rises S (map f xs)
  mapped_rises [] keeps rising = none_rises S
  mapped_rises (x ∷ xs) keeps rising =
      more_rises S (f x) (map f xs)
      (λ z c.
      let from = in_mapped f xs z c in
      subst (λ w. S (f x) w ≡ Less) from.2 (keeps x from.0 (here x xs) (there x xs from.0 from.1) (head_before R x xs rising from.0 from.1)))
      (mapped_rises xs (λ y z c d. keeps y z (there x xs y c) (there x xs z d)) (tail_rises R x xs rising))

pub drop_whole : {A : Type 0} (xs : List A) → drop (length xs) xs ≡ []
drop_whole [] = refl
drop_whole (x ∷ xs) = drop_whole xs
