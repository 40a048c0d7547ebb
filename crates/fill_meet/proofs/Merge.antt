-- The steps of a merge of two lists of places in order.
use Rattle.std.proofs.Common.{◌≡◌, ◌↔◌, ℕ, ◌+◌, ◌<◌, ◌≤◌, ◌⊎◌, inl, inr, List, [], ◌∷◌, ◌++◌, length, get_or, Some, slice_get, refl, sym, ap, ◌∙◌, subst, arith}
use Rattle.std.specs.List.{AllPairs}
use Rattle.std.specs.Ordering.{ordering_reverse}
use Rattle.std.specs.declared.cmp.Ordering.TheVariants.{Less, Equal, Greater}
use Rattle.std.proofs.lemmas.Bool.{cases_lt}
use Rattle.std.proofs.lemmas.List.Quantifiers.{all_pairs_push}
use Rattle.std.proofs.lemmas.Option.{slice_get_within, slice_get-get_or, get_or_from_slice_get}
use Rattle.fill_tokens.specs.Place.{place_cmp}
use Rattle.fill_tokens.specs.declared.place.Place.{Place}
use Rattle.fill_tokens.proofs.PlaceLaws.{place_antisymm, place_trans, exact_places}
use Rattle.fill_arena.specs.Contents.{In, SomeIn}
use Rattle.fill_arena.proofs.Orders.{place_same}
use Rattle.fill_meet.proofs.Lists.{same_value, in_empty, in_pushed, in_last, in_more}

abbrev pub Before : Place → Place → Type 0
Before p q = place_cmp p q ≡ Less

not_itself : (p : Place) → Before p p → ⊥
not_itself p h = let e = place_same p p refl in cc

not_both : (p q : Place) → Before p q → Before q p → ⊥
not_both p q h k = not_itself p (place_trans p q p h k)

pub is_after : (p q : Place) → place_cmp p q ≡ Greater → Before q p
is_after p q h = place_antisymm q p ∙ ap ordering_reverse h

rises : (xs : List Place) (i j : ℕ) (x y : Place) → AllPairs Before xs → i < j → slice_get xs i ≡ Some x → slice_get xs j ≡ Some y → Before x y
rises xs i j x y h lt hx hy =
    let e = get_or_from_slice_get xs i x x hx in
    let f = get_or_from_slice_get xs j y x hy in
    subst (λ v. Before v y) e (subst (λ v. Before (get_or xs i x) v) f (h i j x lt (slice_get_within xs j y hy)))

-- both lists' places from before i in the first or before j in the second are there, and are before the rest of the first
pub record Merged (xs ys : List Place) (i j : ℕ) (both : List Place) : Type 0 where
  pub back : (p : Place) → In p both → In p xs × In p ys
  pub forth : (k l : ℕ) (p : Place) → (k < i) ⊎ (l < j) → slice_get xs k ≡ Some p → slice_get ys l ≡ Some p → In p both
  pub rising : AllPairs Before both
  pub low : (p : Place) (k : ℕ) (x : Place) → In p both → i ≤ k → slice_get xs k ≡ Some x → Before p x

pub merged_start : (xs ys both : List Place) → both ≡ [] → Merged xs ys 0 0 both
merged_start xs ys both e =
    rw e (record {
      back = λ p h. absurd (in_empty p h);
      forth = λ k l p h. elim h [ inl q ↦ absurd (omega arith) | inr q ↦ absurd (omega arith) ];
      rising = λ i j d lt within. absurd (omega arith);
      low = λ p k x h. absurd (in_empty p h);
    })

-- what stands further on is the same or greater
at_or_after : (xs : List Place) (i k : ℕ) (x p : Place) → AllPairs Before xs → slice_get xs i ≡ Some x → slice_get xs k ≡ Some p → (k < i) ⊎ (x ≡ p) ⊎ Before x p
at_or_after xs i k x p s h g = elim (cases_lt k i) [
  | inl l ↦ inl l
  | inr l ↦ elim (cases_lt i k) [
    | inl m ↦ inr (inr (rises xs i k x p s m h g))
    | inr m ↦ inr (inl (same_value xs i k x p (omega arith) h g))
  ]
]

module _ (xs ys both : List Place) (i j : ℕ) (x y : Place) (hx : slice_get xs i ≡ Some x) (hy : slice_get ys j ≡ Some y) (m : Merged xs ys i j both) where
  pub merged_left : AllPairs Before ys → Before x y → Merged xs ys (i + 1) j both
  merged_left s less =
      record {
        back = m.back;
        forth = λ k l p h gx gy. elim h [
          | inl lt ↦ elim (cases_lt k i) [
            | inl q ↦ m.forth k l p (inl q) gx gy
            | inr q ↦
                let xp = same_value xs i k x p (omega arith) hx gx in
                elim (at_or_after ys j l y p s hy gy) [
                  | inl r ↦ m.forth k l p (inr r) gx gy
                  | inr r ↦ elim r [
                    | inl yp ↦ absurd (not_itself p (subst (λ v. Before p v) yp (subst (λ v. Before v y) xp less)))
                    | inr yp ↦ absurd (not_both p y (subst (λ v. Before v y) xp less) yp)
                  ]
                ]
          ]
          | inr lt ↦ m.forth k l p (inr lt) gx gy
        ];
        rising = m.rising;
        low = λ p k z h le. m.low p k z h (omega arith);
      }

  pub merged_right : AllPairs Before xs → Before y x → Merged xs ys i (j + 1) both
  merged_right s less =
      record {
        back = m.back;
        forth = λ k l p h gx gy. elim h [
          | inl lt ↦ m.forth k l p (inl lt) gx gy
          | inr lt ↦ elim (cases_lt l j) [
            | inl q ↦ m.forth k l p (inr q) gx gy
            | inr q ↦
                let yp = same_value ys j l y p (omega arith) hy gy in
                elim (at_or_after xs i k x p s hx gx) [
                  | inl r ↦ m.forth k l p (inl r) gx gy
                  | inr r ↦ elim r [
                    | inl xp ↦ absurd (not_itself p (subst (λ v. Before p v) xp (subst (λ v. Before v x) yp less)))
                    | inr xp ↦ absurd (not_both p x (subst (λ v. Before v x) yp less) xp)
                  ]
                ]
          ]
        ];
        rising = m.rising;
        low = m.low;
      }

  pub merged_both : (more : List Place) → AllPairs Before xs → place_cmp x y ≡ Equal → more ≡ both ++ x ∷ [] → Merged xs ys (i + 1) (j + 1) more
  merged_both more s equal e =
      let xy : x ≡ y = exact_places x y equal in
      let there : slice_get ys j ≡ Some x = hy ∙ ap Some (sym xy) in
      rw e (record {
        back = λ p h. elim (in_pushed both x p h) [
          | inl q ↦ m.back p q
          | inr q ↦ (let P : Place → Type 0 = λ v. In v xs × In v ys in subst P q ((i, hx), (j, there)))
        ];
        forth = λ k l p h gx gy. elim h [
          | inl lt ↦ elim (cases_lt k i) [
            | inl q ↦ in_more both x p (m.forth k l p (inl q) gx gy)
            | inr q ↦ subst (λ v. In v (both ++ x ∷ [])) (same_value xs i k x p (omega arith) hx gx) (in_last both x)
          ]
          | inr lt ↦ elim (cases_lt l j) [
            | inl q ↦ in_more both x p (m.forth k l p (inr q) gx gy)
            | inr q ↦ subst (λ v. In v (both ++ x ∷ [])) (same_value ys j l x p (omega arith) there gy) (in_last both x)
          ]
        ];
        rising = all_pairs_push Before both x m.rising (λ k d lt. m.low (get_or both k d) i x (k, slice_get-get_or both k d lt) (omega arith) hx);
        low = λ p k z h le gz. elim (in_pushed both x p h) [
          | inl q ↦ m.low p k z q (omega arith) gz
          | inr q ↦ subst (λ v. Before v z) q (rises xs i k x z s (omega arith) hx gz)
        ];
      })

pub merged_end : (xs ys both : List Place) (i j : ℕ) → (length xs ≤ i) ⊎ (length ys ≤ j) → Merged xs ys i j both → (p : Place) → In p both ↔ (In p xs × In p ys)
merged_end xs ys both i j h m p = (
  m.back p,
  λ q.
      let wx = slice_get_within xs q.0.0 p q.0.1 in
      let wy = slice_get_within ys q.1.0 p q.1.1 in
      m.forth q.0.0 q.1.0 p (elim h [ inl r ↦ inl (omega arith) | inr r ↦ inr (omega arith) ]) q.0.1 q.1.1,
)

-- the same place in both lists
pub shared_place : (xs ys : List Place) (i j : ℕ) (x y : Place) → slice_get xs i ≡ Some x → slice_get ys j ≡ Some y → place_cmp x y ≡ Equal → SomeIn (λ p. In p ys) xs
shared_place xs ys i j x y hx hy e = (x, (i, hx), (j, hy ∙ ap Some (sym (exact_places x y e))))
