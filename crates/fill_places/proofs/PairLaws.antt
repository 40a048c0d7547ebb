-- The places of a position between two sequences, and its fixed places.
use Rattle.std.proofs.Common.{◌≡◌, ℕ, ◌+◌, ◌-◌, ◌<◌, ◌≤◌, ◌⊎◌, inl, inr, List, length, refl, sym, ap, ◌∙◌, subst, arith, ℤ, pos, negsuc, Bool, true, slice_get, Some}
use Rattle.std.specs.Prelude.{FitsSigned}
use Rattle.std.specs.Int.{w32}
use Rattle.std.specs.declared.cmp.Ordering.TheVariants.{Less}
use Rattle.std.specs.Ordering.{ordering_then}
use Rattle.fill_tokens.specs.Span.{IsCut}
use Rattle.fill_tokens.specs.Value.{HasValue, IsCount}
use Rattle.fill_tokens.specs.Place.{place_cmp, seq_cmp, signed_cmp}
use Rattle.fill_tokens.specs.PlaceGrammar.{AreAround}
use Rattle.fill_tokens.specs.TokenSet.{AreTokensOf}
use Rattle.fill_tokens.specs.declared.token.Token.{Token}
use Rattle.fill_tokens.specs.declared.place.Place.{Place}
use Rattle.fill_tokens.specs.declared.place.Place.TheVariants.{CPos, Pos}
use Rattle.fill_tokens.proofs.CountLaws.{count_unique, count_some, count_same}
use Rattle.fill_text.specs.Lists.{Adds}
use Rattle.fill_places.specs.Marks.{AreMarks, Common}
use Rattle.fill_places.specs.Sides.{IsLeft, IsRight, LeftAt, RightAt}
use Rattle.fill_places.specs.Wanted.{FittingFixed, FittingPair, FixedOf, PairOf, Counts}
use Rattle.fill_tokens.proofs.SeqOrder.{plus_first, minus_first, seq_same}
use Rattle.fill_tokens.specs.declared.token_set.TokenSet.{TokenSet}
use Rattle.fill_text.proofs.ListsLaws.{adds_then}

-- the fixed places
module _ (token_set : TokenSet) (t : List ℕ) (k b : ℕ) (back : k + b ≡ length t) where
  fixed_split : (p : Place) → FixedOf token_set t k p → FittingFixed (pos k) p ⊎ FittingFixed (negsuc b) p
  fixed_split (CPos (pos j)) h =
      let e : j ≡ k = sym h.1.1 in
      inl (ap (λ i. CPos (pos i)) e, subst (λ i. FitsSigned w32 (pos i)) e h.0.0)
  fixed_split (CPos (negsuc j)) h =
      let v : k + j ≡ length t = h.1 in
      let e : j ≡ b = omega arith in
      inr (ap (λ i. CPos (negsuc i)) e, subst (λ i. FitsSigned w32 (negsuc i)) e h.0.0)
  fixed_split (Pos l r c) h = absurd h

  fixed_plus : (p : Place) → FittingFixed (pos k) p → FixedOf token_set t k p
  fixed_plus p h = subst (FixedOf token_set t k) (sym h.0) ((h.1, tt), ((omega arith), refl))

  fixed_minus : (p : Place) → FittingFixed (negsuc b) p → FixedOf token_set t k p
  fixed_minus p h = subst (FixedOf token_set t k) (sym h.0) ((h.1, tt), back)

  pub fixed_two : k ≤ b + 1 → (old mid new : List Place) → Adds place_cmp old mid (FittingFixed (pos k)) → Adds place_cmp mid new (FittingFixed (negsuc b)) → Adds place_cmp old new (FixedOf token_set t k)
  fixed_two le old mid new a c =
      adds_then place_cmp (FittingFixed (pos k)) (FittingFixed (negsuc b)) (FixedOf token_set t k) old mid new a c
      (λ p q x y. subst (λ z. place_cmp z q ≡ Less) (sym x.0) (subst (λ z. place_cmp (CPos (pos k)) z ≡ Less) (sym y.0) (plus_first k b le)))
      fixed_split fixed_plus fixed_minus

  pub fixed_two_back : b + 1 < k → (old mid new : List Place) → Adds place_cmp old mid (FittingFixed (negsuc b)) → Adds place_cmp mid new (FittingFixed (pos k)) → Adds place_cmp old new (FixedOf token_set t k)
  fixed_two_back lt old mid new a c =
      adds_then place_cmp (FittingFixed (negsuc b)) (FittingFixed (pos k)) (FixedOf token_set t k) old mid new a c
      (λ p q x y. subst (λ z. place_cmp z q ≡ Less) (sym x.0) (subst (λ z. place_cmp (CPos (negsuc b)) z ≡ Less) (sym y.0) (minus_first k b lt)))
      (λ p h. elim (fixed_split p h) [ inl x ↦ inr x | inr y ↦ inl y ])
      fixed_minus fixed_plus

count_less : (l r : List Token) (c d : ℤ) → signed_cmp c d ≡ Less → place_cmp (Pos l r c) (Pos l r d) ≡ Less
count_less l r c d h =
    ap (λ o. ordering_then o (ordering_then (seq_cmp r r) (signed_cmp c d))) (seq_same l) ∙ ap (λ o. ordering_then o (signed_cmp c d)) (seq_same r) ∙ h

plus_not_zero : (a : ℕ) → 0 < a → pos a ≡ pos 0 → ⊥
plus_not_zero a h e = let f : a ≡ 0 = cc in omega arith

module _ (token_set : TokenSet) (t : List ℕ) (k : ℕ) (l r : List Token) (a b : ℕ) (n : Counts t k l r a b) where
  only_two : (c : ℤ) → HasValue (Pos l r c) t k → (c ≡ pos a) ⊎ (c ≡ negsuc (b - 1))
  only_two (pos c) h = inl (ap pos (count_unique (IsCut l r t) (k + 1) c a h.2 n.upto))
  only_two (negsuc c) h =
      let e : c + 1 ≡ b = count_unique (λ i. IsCut l r t (length t - i)) (length t - k + 1) (c + 1) b h.2 n.from in
      let f : c ≡ b - 1 = omega arith in
      inr (ap negsuc f)

  pair_split : (p : Place) → PairOf token_set t k l r p → FittingPair l r (pos a) p ⊎ FittingPair l r (negsuc (b - 1)) p
  pair_split (CPos j) h = absurd h
  pair_split (Pos x y c) h =
      let v : HasValue (Pos l r c) t k = subst (λ z. HasValue (Pos l z c) t k) h.1 (subst (λ z. HasValue (Pos z y c) t k) h.0 h.2.1) in
      let e = h.0 in
      let f = h.1 in
      let fits = h.2.0.0.0 in
      elim (only_two c v) [
        | inl g ↦ inl ((let z : Pos x y c ≡ Pos l r (pos a) = cc in z), subst (FitsSigned w32) g fits)
        | inr g ↦ inr ((let z : Pos x y c ≡ Pos l r (negsuc (b - 1)) = cc in z), subst (FitsSigned w32) g fits)
      ]

  module _ (around : AreAround l r) (tokens : AreTokensOf token_set l × AreTokensOf token_set r) where
    pair_plus : (p : Place) → FittingPair l r (pos a) p → PairOf token_set t k l r p
    pair_plus p h = subst (PairOf token_set t k l r) (sym h.0) (refl, refl, (((h.1, plus_not_zero a n.a_some, around), tokens), (n.within, n.cut, n.upto)))

    pair_minus : (p : Place) → FittingPair l r (negsuc (b - 1)) p → PairOf token_set t k l r p
    pair_minus p h =
        let e : b ≡ b - 1 + 1 = omega (arith, n.b_some) in
        subst (PairOf token_set t k l r) (sym h.0) (refl, refl, (((h.1, (λ e. cc), around), tokens), (n.within, n.cut, subst (λ x. IsCount (λ i. IsCut l r t (length t - i)) (length t - k + 1) x) e n.from)))

    pub pair_two : a ≤ b → (old mid new : List Place) → Adds place_cmp old mid (FittingPair l r (pos a)) → Adds place_cmp mid new (FittingPair l r (negsuc (b - 1))) → Adds place_cmp old new (PairOf token_set t k l r)
    pair_two le old mid new x y =
        adds_then place_cmp (FittingPair l r (pos a)) (FittingPair l r (negsuc (b - 1))) (PairOf token_set t k l r) old mid new x y
        (λ p q u v. subst (λ z. place_cmp z q ≡ Less) (sym u.0) (subst (λ z. place_cmp (Pos l r (pos a)) z ≡ Less) (sym v.0) (count_less l r (pos a) (negsuc (b - 1)) (plus_first a (b - 1) (omega (arith, n.b_some))))))
        pair_split pair_plus pair_minus

    pub pair_two_back : b < a → (old mid new : List Place) → Adds place_cmp old mid (FittingPair l r (negsuc (b - 1))) → Adds place_cmp mid new (FittingPair l r (pos a)) → Adds place_cmp old new (PairOf token_set t k l r)
    pair_two_back lt old mid new x y =
        adds_then place_cmp (FittingPair l r (negsuc (b - 1))) (FittingPair l r (pos a)) (PairOf token_set t k l r) old mid new x y
        (λ p q u v. subst (λ z. place_cmp z q ≡ Less) (sym u.0) (subst (λ z. place_cmp (Pos l r (negsuc (b - 1))) z ≡ Less) (sym v.0) (count_less l r (negsuc (b - 1)) (pos a) (minus_first a (b - 1) (omega (arith, n.b_some))))))
        (λ p h. elim (pair_split p h) [ inl x ↦ inr x | inr y ↦ inl y ])
        pair_minus pair_plus

-- counts of common marks are counts of cuts
pub counts_from_marks : (token_set : TokenSet) (t : List ℕ) (k : ℕ) (l r : List Token) (us vs : List Bool) (a b n : ℕ) → n ≡ length t → k ≤ length t →
    AreMarks (LeftAt token_set t l) (length t) us → AreMarks (RightAt token_set t r) (length t) vs → slice_get us k ≡ Some true → slice_get vs k ≡ Some true →
    IsCount (Common us vs) (k + 1) a → IsCount (λ i. Common us vs (n - i)) (n - k + 1) b →
    Counts t k l r a b
counts_from_marks token_set t k l r us vs a b n e within lm rm ends begins upto from =
    let C : ℕ → Type 0 = Common us vs in
    let P : ℕ → Type 0 = IsCut l r t in
    let left : IsLeft token_set l = (lm.sound k ends).0 in
    let right : IsRight token_set r = (rm.sound k begins).0 in
    let to : (i : ℕ) → C i → P i = λ i x. ((lm.sound i x.0).1, (rm.sound i x.1).1) in
    let back : (i : ℕ) → P i → C i = λ i x. (lm.full i (left, x.0), rm.full i (right, x.1)) in
    let cut : P k = to k (ends, begins) in
    let from2 : IsCount (λ i. C (length t - i)) (length t - k + 1) b = subst (λ m. IsCount (λ i. C (m - i)) (m - k + 1) b) e from in
    let first : P (length t - (length t - k)) = (let f : k ≡ length t - (length t - k) = omega arith in subst P f cut) in
    let upto3 = count_same C P (k + 1) a to back upto in
    let from3 = count_same (λ i. C (length t - i)) (λ i. P (length t - i)) (length t - k + 1) b (λ i. to (length t - i)) (λ i. back (length t - i)) from2 in
    record {
      within = within;
      cut = cut;
      upto = upto3;
      from = from3;
      a_some = count_some P k a cut upto3;
      b_some = count_some (λ i. P (length t - i)) (length t - k) b first from3;
    }

pub around_from : (token_set : TokenSet) (l r : List Token) → IsLeft token_set l → IsRight token_set r → length l ≤ 3 → length r ≤ 3 → 0 < length l + length r → AreAround l r
around_from token_set l r left right few_left few_right some = record {
  short_left = few_left;
  short_right = few_right;
  some = some;
  start_left = left.start;
  start_right = right.start;
  end_left = left.end;
  end_right = right.end;
}

pub none_empty : (token_set : TokenSet) (t : List ℕ) (k : ℕ) (l r : List Token) → length l + length r ≡ 0 → (p : Place) → PairOf token_set t k l r p → ⊥
none_empty token_set t k l r e (CPos j) h = h
none_empty token_set t k l r e (Pos x y c) h =
    let f = h.0 in
    let g = h.1 in
    let s = h.2.0.0.2.some in
    let a : length x ≡ length l = ap length f in
    let b : length y ≡ length r = ap length g in
    omega arith
