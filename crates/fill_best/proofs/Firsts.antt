-- The laws of the first k items: of two properties together, of products, and of one more item.
use Rattle.std.proofs.Common.{◌≡◌, ◌⊎◌, ℕ, zero, suc, ◌<◌, ◌≤◌, inl, inr, List, [], ◌∷◌, ◌++◌, length, map, take, drop, refl, sym, subst, arith}
use Rattle.std.specs.Prelude.{Contains}
use Rattle.std.specs.Cmp.{IsTotalOrder}
use Rattle.std.specs.declared.cmp.Ordering.{Ordering}
use Rattle.std.specs.declared.cmp.Ordering.TheVariants.{Less, Equal, Greater}
use Rattle.std.specs.Ordering.{ordering_reverse}
use Rattle.std.proofs.lemmas.List.{length-map}
use Rattle.std.proofs.lemmas.Map.Lookups.{CmpEqualImpliesEq}
use Rattle.fill_best.specs.First.{Rises, IsPast, AreFirst, IsMade}
use Rattle.fill_best.proofs.Items.{none_in, here, there, which, in_taken, in_inserted, inserted_new, inserted_old, in_mapped, mapped_in, head_before, tail_rises, none_rises, taken_rises, inserted_rises, mapped_rises}

-- k items of the property come before y
pub record Ahead {A : Type 0} (R : A → A → Ordering) (C : A → Type 0) (k : ℕ) (y : A) : Type 0 where
  pub items : List A
  pub rising : Rises R items
  pub many : k ≤ length items
  pub each : (z : A) → Contains items z → C z × (R z y ≡ Less)

not_reversed : (o : Ordering) → o ≡ ordering_reverse o → ¬ (o ≡ Less)
not_reversed Less e h = let f = e in cc
not_reversed Equal e h = cc
not_reversed Greater e h = cc

greater_back : (o q : Ordering) → o ≡ ordering_reverse q → q ≡ Less → ¬ (o ≡ Less)
greater_back o Less e h = λ f. let g = e in cc
greater_back o Equal e h = cc
greater_back o Greater e h = cc

three_ways : {X : Type 0} (o q : Ordering) → q ≡ ordering_reverse o → (o ≡ Equal → X) → (o ≡ Less) ⊎ (X ⊎ (q ≡ Less))
three_ways Less q e same = inl refl
three_ways Equal q e same = inr (inl (same refl))
three_ways Greater q e same = inr (inr e)

module _ {A : Type 0} (R : A → A → Ordering) (total : IsTotalOrder R) (exact : CmpEqualImpliesEq R) where
  pub not_before_itself : (x : A) → ¬ (R x x ≡ Less)
  not_before_itself x = not_reversed (R x x) (total.antisymm x x)

  pub one_way : (x y : A) → R x y ≡ Less → ¬ (R y x ≡ Less)
  one_way x y h = greater_back (R y x) (R x y) (total.antisymm y x) h

  pub compared : (x y : A) → (R x y ≡ Less) ⊎ ((x ≡ y) ⊎ (R y x ≡ Less))
  compared x y = three_ways {X = x ≡ y} (R x y) (R y x) (total.antisymm y x) (exact x y)

  -- a list that rises is no longer than one that rises and has all its items
  later_in : (z x : A) (zs xs : List A) → Rises R (z ∷ zs) → Rises R (x ∷ xs) → ((w : A) → Contains (z ∷ zs) w → Contains (x ∷ xs) w) →
      (w : A) → R z w ≡ Less → Contains (x ∷ xs) w → Contains xs w
  later_in z x zs xs a b all w after c = elim (which x xs w c) [
    | inr d ↦ d
    | inl e ↦
        let first : R z x ≡ Less = subst (λ v. R z v ≡ Less) (sym e) after in
        absurd (elim (which x xs z (all z (here z zs))) [
          | inl f ↦ not_before_itself x (subst (λ v. R v x ≡ Less) (sym f) first)
          | inr d ↦ one_way z x first (head_before R x xs b z d)
        ])
  ]

  pub no_longer : (zs xs : List A) → Rises R zs → Rises R xs → ((w : A) → Contains zs w → Contains xs w) → length zs ≤ length xs
  no_longer [] xs a b all = omega arith
  no_longer (z ∷ zs) [] a b all = absurd (none_in z (all z (here z zs)))
  no_longer (z ∷ zs) (x ∷ xs) a b all =
      let rest =
      no_longer zs xs (tail_rises R z zs a) (tail_rises R x xs b) (λ w c. later_in z x zs xs a b all w (head_before R z zs a w c) (all w (there z zs w c))) in
      omega arith

  pub shorter : (zs xs : List A) (y : A) → Rises R zs → Rises R xs → ((w : A) → Contains zs w → Contains xs w) → Contains xs y →
      ((w : A) → Contains zs w → R w y ≡ Less) → length zs < length xs
  shorter [] xs y a b all c before = let w = c.1 in omega arith
  shorter (z ∷ zs) [] y a b all c before = absurd (none_in y c)
  shorter (z ∷ zs) (x ∷ xs) y a b all c before =
      let rest =
      shorter zs xs y (tail_rises R z zs a) (tail_rises R x xs b) (λ w d. later_in z x zs xs a b all w (head_before R z zs a w d) (all w (there z zs w d)))
      (later_in z x zs xs a b all y (before z (here z zs)) c) (λ w d. before w (there z zs w d)) in
      omega arith

  module _ (C : A → Type 0) (k : ℕ) (xs : List A) (first : AreFirst R C k xs) where
    all_or_past : (zs : List A) (y : A) → ((z : A) → Contains zs z → C z × (R z y ≡ Less)) → ((z : A) → Contains zs z → Contains xs z) ⊎ IsPast R k xs y
    all_or_past [] y each = inl (λ z c. absurd (none_in z c))
    all_or_past (z ∷ zs) y each =
        let it = each z (here z zs) in
        elim (first.others z it.0) [
          | inr past ↦ inr (record { full = past.full; before = λ x c. total.trans x z y (past.before x c) it.1 })
          | inl c ↦ elim (all_or_past zs y (λ w d. each w (there z zs w d))) [
            | inr past ↦ inr past
            | inl all ↦ inl (λ w d. elim (which z zs w d) [ inl e ↦ subst (Contains xs) e c | inr f ↦ all w f ])
          ]
        ]

    no_later : (y x w : A) → R w y ≡ Less → (y ≡ x) ⊎ (R y x ≡ Less) → R w x ≡ Less
    no_later y x w h (inl e) = subst (λ v. R w v ≡ Less) e h
    no_later y x w h (inr g) = total.trans w y x h g

    pub past_ahead : (y : A) → Ahead R C k y → IsPast R k xs y
    past_ahead y ahead = elim (all_or_past ahead.items y ahead.each) [
      | inr past ↦ past
      | inl all ↦ record {
        full = (let long = no_longer ahead.items xs ahead.rising first.rising all in let many = ahead.many in omega arith);
        before = λ x c.
            let late : (y ≡ x) ⊎ (R y x ≡ Less) → ⊥ = λ later.
            let less = shorter ahead.items xs x ahead.rising first.rising all c (λ w d. no_later y x w (ahead.each w d).1 later) in
            let few = first.few in
            let many = ahead.many in
            omega arith in
            elim (compared x y) [ inl h ↦ h | inr later ↦ absurd (late (elim later [ inl e ↦ inl (sym e) | inr h ↦ inr h ])) ];
      }
    ]

    -- more has the property, but all of that is past the listed items
    pub first_more : (P : A → Type 0) → ((z : A) → C z → P z) → ((y : A) → P y → C y ⊎ IsPast R k xs y) → AreFirst R P k xs
    first_more P to from = record {
      rising = first.rising;
      have = λ x c. to x (first.have x c);
      few = first.few;
      others = λ y p. elim (from y p) [ inl c ↦ first.others y c | inr past ↦ inr past ];
    }

    pub first_grown : (P : A → Type 0) → ((z : A) → C z → P z) → ((y : A) → P y → C y ⊎ Ahead R C k y) → AreFirst R P k xs
    first_grown P to from = first_more P to (λ y p. elim (from y p) [ inl c ↦ inl c | inr ahead ↦ inr (past_ahead y ahead) ])

    pub first_same : (P : A → Type 0) → ((z : A) → C z → P z) → ((z : A) → P z → C z) → AreFirst R P k xs
    first_same P to from = first_more P to (λ y p. inl (from y p))

  -- what was put to the first items of a property
  pub first_joined : (C Q : A → Type 0) (k : ℕ) (old new : List A) → AreFirst R C k old → AreFirst R (λ z. Contains old z ⊎ Q z) k new →
      AreFirst R (λ z. C z ⊎ Q z) k new
  first_joined C Q k old new before after = first_grown (λ z. Contains old z ⊎ Q z) k new after (λ z. C z ⊎ Q z)
      (λ z s. elim s [ inl c ↦ inl (before.have z c) | inr q ↦ inr q ])
      (λ y s. elim s [
        | inr q ↦ inl (inr q)
        | inl p ↦ elim (before.others y p) [
          | inl c ↦ inl (inl c)
          | inr past ↦ inr (record { items = old; rising = before.rising; many = past.full; each = λ z c. (inl c, past.before z c) })
        ]
      ])

  pub first_none : (P : A → Type 0) (k : ℕ) → ((y : A) → ¬ (P y)) → AreFirst R P k []
  first_none P k none = record { rising = none_rises R; have = λ x c. absurd (none_in x c); few = omega arith; others = λ y p. absurd (none y p) }

  -- the first k items of a list that rises
  cut_in : (k : ℕ) (xs : List A) → Rises R xs → (y : A) → Contains xs y → Contains (take k xs) y ⊎ IsPast R k (take k xs) y
  cut_in zero xs rising y c = inr (record { full = omega arith; before = λ x d. absurd (none_in x d) })
  cut_in (suc k) [] rising y c = absurd (none_in y c)
  cut_in (suc k) (x ∷ xs) rising y c = elim (which x xs y c) [
    | inl e ↦ inl (subst (Contains (x ∷ take k xs)) e (here x (take k xs)))
    | inr d ↦ elim (cut_in k xs (tail_rises R x xs rising) y d) [
      | inl f ↦ inl (there x (take k xs) y f)
      | inr past ↦ inr (record {
        full = (let full = past.full in omega arith);
        before = λ z f. elim (which x (take k xs) z f) [
          | inl e ↦ subst (λ v. R v y ≡ Less) e (head_before R x xs rising y d)
          | inr g ↦ past.before z g
        ];
      })
    ]
  ]

  few_taken : (k : ℕ) (xs : List A) → length (take k xs) ≤ k
  few_taken zero xs = omega arith
  few_taken (suc k) [] = omega arith
  few_taken (suc k) (x ∷ xs) = let rest = few_taken k xs in omega arith

  pub first_cut : (P : A → Type 0) (k : ℕ) (xs : List A) → Rises R xs → ((x : A) → Contains xs x → P x) → ((x : A) → P x → Contains xs x) → AreFirst R P k (take k xs)
  first_cut P k xs rising to from = record {
    rising = taken_rises R k xs rising;
    have = λ x c. to x (in_taken k xs x c);
    few = few_taken k xs;
    others = λ y p. cut_in k xs rising y (from y p);
  }

  -- one more item, at its place among those that rise
  pub first_inserted : (k n : ℕ) (xs : List A) (y : A) → Rises R xs → ((z : A) → Contains (take n xs) z → R z y ≡ Less) → ((z : A) → Contains (drop n xs) z → R y z ≡ Less) →
      AreFirst R (λ z. Contains xs z ⊎ (z ≡ y)) k (take k (take n xs ++ y ∷ drop n xs))
  first_inserted k n xs y rising low high =
      first_cut (λ z. Contains xs z ⊎ (z ≡ y)) k (take n xs ++ y ∷ drop n xs) (inserted_rises R n xs y rising low high) (λ z c. in_inserted n xs y z c)
      (λ z s. elim s [ inl c ↦ inserted_old n xs y z c | inr e ↦ subst (Contains (take n xs ++ y ∷ drop n xs)) (sym e) (inserted_new n xs y) ])

  -- what is listed already, or past what may be listed
  pub first_listed : (k : ℕ) (xs : List A) (y : A) → Rises R xs → length xs ≤ k → Contains xs y → AreFirst R (λ z. Contains xs z ⊎ (z ≡ y)) k xs
  first_listed k xs y rising few c = record {
    rising = rising;
    have = λ x d. inl d;
    few = few;
    others = λ z s. elim s [ inl d ↦ inl d | inr e ↦ inl (subst (Contains xs) (sym e) c) ];
  }

  pub first_unlisted : (k : ℕ) (xs : List A) (y : A) → Rises R xs → length xs ≤ k → IsPast R k xs y → AreFirst R (λ z. Contains xs z ⊎ (z ≡ y)) k xs
  first_unlisted k xs y rising few past = record {
    rising = rising;
    have = λ x d. inl d;
    few = few;
    others = λ z s. elim s [ inl d ↦ inl d | inr e ↦ inr (subst (IsPast R k xs) (sym e) past) ];
  }

module _ {A B D : Type 0} (R : A → A → Ordering) (S : B → B → Ordering) (T : D → D → Ordering) (total : IsTotalOrder T) (exact : CmpEqualImpliesEq T) (f : A → B → D)
    (left : (x y : A) (z : B) → R x y ≡ Less → T (f x z) (f y z) ≡ Less) (right : (z : A) (x y : B) → S x y ≡ Less → T (f z x) (f z y) ≡ Less) where
  -- the first of what two properties make are made of their first
  pub first_made : (C : D → Type 0) (P : A → Type 0) (Q : B → Type 0) (k : ℕ) (xs : List A) (ys : List B) (zs : List D) → AreFirst R P k xs → AreFirst S Q k ys →
      AreFirst T (λ z. C z ⊎ IsMade f (Contains xs) (Contains ys) z) k zs → AreFirst T (λ z. C z ⊎ IsMade f P Q z) k zs
  first_made C P Q k xs ys zs firsts seconds made = both
    where
      Listed : D → Type 0
      Listed z = C z ⊎ IsMade f (Contains xs) (Contains ys) z

      Half : D → Type 0
      Half z = C z ⊎ IsMade f (Contains xs) Q z

      half : AreFirst T (λ z. C z ⊎ IsMade f (Contains xs) Q z) k zs
      half = first_grown T total exact (λ z. C z ⊎ IsMade f (Contains xs) (Contains ys) z) k zs made (λ z. C z ⊎ IsMade f (Contains xs) Q z)
          (λ z s. elim s [ inl c ↦ inl c | inr m ↦ inr (m.0, m.1, m.2, seconds.have m.1 m.3, m.4) ])
          (λ z s. elim s [
            | inl c ↦ inl (inl c)
            | inr m ↦ elim (seconds.others m.1 m.3) [
              | inl c ↦ inl (inr (m.0, m.1, m.2, c, m.4))
              | inr past ↦ inr (record {
                items = map (f m.0) ys;
                rising = mapped_rises S T (f m.0) ys (λ x y c d. right m.0 x y) seconds.rising;
                many = (let full = past.full in let same = length-map ys (f m.0) in omega arith);
                each = λ w c.
                    let from = in_mapped (f m.0) ys w c in (
                      inr (m.0, from.0, m.2, from.1, from.2),
                      subst (λ v. T w v ≡ Less) m.4 (subst (λ v. T v (f m.0 m.1) ≡ Less) from.2 (right m.0 from.0 m.1 (past.before from.0 from.1))),
                    );
              })
            ]
          ])

      both : AreFirst T (λ z. C z ⊎ IsMade f P Q z) k zs
      both = first_grown T total exact (λ z. C z ⊎ IsMade f (Contains xs) Q z) k zs half (λ z. C z ⊎ IsMade f P Q z)
          (λ z s. elim s [ inl c ↦ inl c | inr m ↦ inr (m.0, m.1, firsts.have m.0 m.2, m.3, m.4) ])
          (λ z s. elim s [
            | inl c ↦ inl (inl c)
            | inr m ↦ elim (firsts.others m.0 m.2) [
              | inl c ↦ inl (inr (m.0, m.1, c, m.3, m.4))
              | inr past ↦ inr (record {
                items = map (λ x. f x m.1) xs;
                rising = mapped_rises R T (λ x. f x m.1) xs (λ x y c d. left x y m.1) firsts.rising;
                many = (let full = past.full in let same = length-map xs (λ x. f x m.1) in omega arith);
                each = λ w c.
                    let from = in_mapped (λ x. f x m.1) xs w c in (
                      inr (from.0, m.1, from.1, m.3, from.2),
                      subst (λ v. T w v ≡ Less) m.4 (subst (λ v. T v (f m.0 m.1) ≡ Less) from.2 (left from.0 m.0 m.1 (past.before from.0 from.1))),
                    );
              })
            ]
          ])

-- the first of a property, seen otherwise
module _ {A B : Type 0} (R : A → A → Ordering) (S : B → B → Ordering) (f : A → B) (P : A → Type 0) (Q : B → Type 0)
    (to : (x : A) → P x → Q (f x)) (from : (y : B) → Q y → (x : A) × P x × (f x ≡ y)) (keeps : (x y : A) → P x → P y → R x y ≡ Less → S (f x) (f y) ≡ Less) where
  pub first_seen : (k : ℕ) (xs : List A) → AreFirst R P k xs → AreFirst S Q k (map f xs)
  first_seen k xs first = record {
    rising = mapped_rises R S f xs (λ x y c d. keeps x y (first.have x c) (first.have y d)) first.rising;
    have = λ y c. let x = in_mapped f xs y c in subst Q x.2 (to x.0 (first.have x.0 x.1));
    few = (let few = first.few in let same = length-map xs f in omega arith);
    others = λ y q.
        let x = from y q in
        elim (first.others x.0 x.1) [
          | inl c ↦ inl (subst (Contains (map f xs)) x.2 (mapped_in f xs x.0 c))
          | inr past ↦ inr (record {
            full = (let full = past.full in let same = length-map xs f in omega arith);
            before = λ w c.
                let z = in_mapped f xs w c in
                subst (λ v. S v y ≡ Less) z.2 (subst (λ v. S (f z.0) v ≡ Less) x.2 (keeps z.0 x.0 (first.have z.0 z.1) x.1 (past.before z.0 z.1)));
          })
        ];
  }
