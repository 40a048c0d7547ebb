-- Which items have a property, as the bits of a number.
use Rattle.std.proofs.Common.{◌≡◌, ℕ, zero, suc, ◌+◌, ◌*◌, ◌^◌, ◌%◌, ◌<◌, ◌⊎◌, ◌↔◌, inl, inr, List, [], ◌∷◌, ◌++◌, length, get_or, take, slice_get, Some, min, refl, sym, ap, ◌∙◌, subst, arith, w64, bit_and, length-append}
use Rattle.std.specs.Int.RustNames.{bit_or}
use Rattle.std.specs.Int.{bit_at}
use Rattle.std.specs.List.{All, AllZip}
use Rattle.std.proofs.lemmas.Bool.{cases_lt}
use Rattle.std.proofs.lemmas.Option.{same_Some, slice_get-get_or, slice_get_within, get_or_from_slice_get}
use Rattle.std.proofs.lemmas.Nat.Bits.{bit_at-zero, bit_at-lt, bit_at_and, same_from_bits, bit_at_set_same, bit_at_set_other}
use Rattle.std.proofs.lemmas.List.Elements.{All-cons, All-head, All-tail}
use Rattle.std.proofs.lemmas.List.{take_more, length-take}
use Rattle.std.proofs.lemmas.Slice.Zip.{AllZip-long, all_zipped_more}
use Rattle.fill_guard.specs.Candidate.{IsMask}

not_set : (b : ℕ) → b < 2 → (b ≡ 1 → ⊥) → b ≡ 0
not_set zero small h = refl
not_set (suc zero) small h = absurd (h refl)
not_set (suc (suc b)) small h = absurd (omega arith)

both_set : (b c : ℕ) → b < 2 → c < 2 → min b c ≡ 1 → (b ≡ 1) × (c ≡ 1)
both_set b c small small2 h = (omega arith, omega arith)

min_zero : (b : ℕ) → min 0 b ≡ 0
min_zero b = omega arith

module _ {A : Type 0} where
  pub item_at : (xs : List A) (i : ℕ) → i < length xs → (x : A) × (slice_get xs i ≡ Some x)
  item_at [] i lt = absurd (omega arith)
  item_at (x ∷ xs) zero lt = (x, refl)
  item_at (x ∷ xs) (suc i) lt = item_at xs i (omega arith)

  -- an item of the list with one more at the end is one of the list, or the last
  pub snoc_cases : (xs : List A) (x y : A) (i : ℕ) → slice_get (xs ++ x ∷ []) i ≡ Some y → (slice_get xs i ≡ Some y) ⊎ ((i ≡ length xs) × (x ≡ y))
  snoc_cases [] x y zero h = inr (refl, same_Some x y h)
  snoc_cases [] x y (suc i) h = cc
  snoc_cases (z ∷ zs) x y zero h = inl h
  snoc_cases (z ∷ zs) x y (suc i) h = elim (snoc_cases zs x y i h) [ inl l ↦ inl l | inr r ↦ inr (ap suc r.0, r.1) ]

  none_at : (i : ℕ) (x : A) → slice_get {X = A} [] i ≡ Some x → ⊥
  none_at i x h = cc

module _ {A : Type 0} (P : A → Type 0) where
  pub mask_none : IsMask P [] 0
  mask_none = record { bits = λ i x h. absurd (none_at i x h); past = λ i h. bit_at-zero i }

  -- one item more, which has the property or does not
  pub mask_set : (xs : List A) (x : A) (m : ℕ) → length xs < 64 → P x → IsMask P xs m → IsMask P (xs ++ x ∷ []) (bit_or m (1 * 2 ^ length xs % 2 ^ 64))
  mask_set xs x m small p is = record {
    bits = λ i y h. elim (snoc_cases xs x y i h) [
      | inl old ↦
          let lt = slice_get_within xs i y old in
          let e : bit_at (bit_or m (1 * 2 ^ length xs % 2 ^ 64)) i ≡ bit_at m i = bit_at_set_other w64 m (length xs) small i (λ same. omega arith) in
          let b = is.bits i y old in (λ q. b.0 (sym e ∙ q), λ q. e ∙ b.1 q)
      | inr last ↦
          (λ q. subst P last.1 p, λ q. ap (bit_at (bit_or m (1 * 2 ^ length xs % 2 ^ 64))) last.0 ∙ bit_at_set_same w64 m (length xs) small)
    ];
    past = λ i h.
        let long = length-append xs (x ∷ []) in
        let far : length xs < i = omega arith in
        bit_at_set_other w64 m (length xs) small i (λ same. omega arith) ∙ is.past i (omega arith);
  }

  pub mask_not : (xs : List A) (x : A) (m : ℕ) → (P x → ⊥) → IsMask P xs m → IsMask P (xs ++ x ∷ []) m
  mask_not xs x m none is = record {
    bits = λ i y h. elim (snoc_cases xs x y i h) [
      | inl old ↦ is.bits i y old
      | inr last ↦
          let zero_there = is.past i (let e = last.0 in omega arith) in
          (λ q. absurd (let e = zero_there in omega arith), λ q. absurd (none (subst P (sym last.1) q)))
    ];
    past = λ i h. let long = length-append xs (x ∷ []) in is.past i (omega arith);
  }

  -- no bit is set exactly where no item has the property
  pub mask_zero : (xs : List A) → IsMask P xs 0 → All (λ x. ¬ P x) xs
  mask_zero xs is k d lt p =
      let set : bit_at 0 k ≡ 1 = (is.bits k (get_or xs k d) (slice_get-get_or xs k d lt)).1 p in
      let clear : bit_at 0 k ≡ 0 = bit_at-zero k in
      absurd (omega arith)

  pub zero_mask : (xs : List A) (m : ℕ) → IsMask P xs m → All (λ x. ¬ P x) xs → m ≡ 0
  zero_mask xs m is none = same_from_bits m 0 (λ i. same i ∙ sym (bit_at-zero i))
    where
      some : (i : ℕ) → i < length xs → bit_at m i ≡ 1 → ⊥
      some i lt set = let r = item_at xs i lt in none i r.0 lt (subst P (sym (get_or_from_slice_get xs i r.0 r.0 r.1)) ((is.bits i r.0 r.1).0 set))

      same : (i : ℕ) → bit_at m i ≡ 0
      same i = elim (cases_lt i (length xs)) [
        | inl lt ↦ not_set (bit_at m i) (bit_at-lt m i) (some i lt)
        | inr past ↦ is.past i past
      ]

module _ {A : Type 0} (P Q : A → Type 0) where
  -- two numbers have no bit in common exactly where no item has both properties
  pub mask_apart : (xs : List A) (m n : ℕ) → IsMask P xs m → IsMask Q xs n → bit_and m n ≡ 0 → All (λ x. ¬ (P x × Q x)) xs
  mask_apart xs m n p q apart k d lt both =
      let at = slice_get-get_or xs k d lt in
      let first : bit_at m k ≡ 1 = (p.bits k (get_or xs k d) at).1 both.0 in
      let second : bit_at n k ≡ 1 = (q.bits k (get_or xs k d) at).1 both.1 in
      let set : bit_at (bit_and m n) k ≡ min 1 1 = bit_at_and m n k ∙ ap (λ b. min b (bit_at n k)) first ∙ ap (min 1) second in
      let clear : bit_at (bit_and m n) k ≡ 0 = ap (λ z. bit_at z k) apart ∙ bit_at-zero k in
      absurd (omega arith)

  pub apart_mask : (xs : List A) (m n : ℕ) → IsMask P xs m → IsMask Q xs n → All (λ x. ¬ (P x × Q x)) xs → bit_and m n ≡ 0
  apart_mask xs m n p q none = zero_mask (λ x. P x × Q x) xs (bit_and m n) both none
    where
      to : (i : ℕ) (x : A) → slice_get xs i ≡ Some x → bit_at (bit_and m n) i ≡ 1 → P x × Q x
      to i x h set =
          let parts = both_set (bit_at m i) (bit_at n i) (bit_at-lt m i) (bit_at-lt n i) (sym (bit_at_and m n i) ∙ set) in
          ((p.bits i x h).0 parts.0, (q.bits i x h).0 parts.1)

      from : (i : ℕ) (x : A) → slice_get xs i ≡ Some x → P x × Q x → bit_at (bit_and m n) i ≡ 1
      from i x h b = bit_at_and m n i ∙ ap (λ z. min z (bit_at n i)) ((p.bits i x h).1 b.0) ∙ ap (min 1) ((q.bits i x h).1 b.1)

      both : IsMask (λ x. P x × Q x) xs (bit_and m n)
      both = record {
        bits = λ i x h. (to i x h, from i x h);
        past = λ i h. bit_at_and m n i ∙ ap (λ z. min z (bit_at n i)) (p.past i h) ∙ min_zero (bit_at n i);
      }

  -- one number for two properties that no item has together
  pub common_zero : (xs : List A) (m : ℕ) → IsMask P xs m → IsMask Q xs m → All (λ x. ¬ (P x × Q x)) xs → m ≡ 0
  common_zero xs m p q none = zero_mask P xs m p (λ k d lt h.
      let at = slice_get-get_or xs k d lt in
      none k d lt (h, (q.bits k (get_or xs k d) at).0 ((p.bits k (get_or xs k d) at).1 h)))

module _ {A B : Type 0} where
  -- two lists with a relation at each place
  zip_read : (R : A → B → Type 0) (xs : List A) (ys : List B) → AllZip R xs ys → (i : ℕ) (x : A) → slice_get xs i ≡ Some x → (y : B) × (slice_get ys i ≡ Some y) × R x y
  zip_read R [] ys z i x h = absurd (none_at i x h)
  zip_read R (a ∷ as1) [] z i x h = absurd z
  zip_read R (a ∷ as1) (b ∷ bs) z zero x h = (b, refl, subst (λ u. R u b) (same_Some a x h) z.0)
  zip_read R (a ∷ as1) (b ∷ bs) z (suc i) x h = zip_read R as1 bs z.1 i x h

  pub zip_weaker : (R S : A → B → Type 0) (xs : List A) (ys : List B) → ((x : A) (y : B) → R x y → S x y) → AllZip R xs ys → AllZip S xs ys
  zip_weaker R S [] [] f z = z
  zip_weaker R S [] (b ∷ bs) f z = z
  zip_weaker R S (a ∷ as1) [] f z = z
  zip_weaker R S (a ∷ as1) (b ∷ bs) f z = (f a b z.0, zip_weaker R S as1 bs f z.1)

  -- what the items stand for has the same mask
  pub mask_over : (P : B → Type 0) (Q : A → Type 0) (xs : List A) (ys : List B) (m : ℕ) → AllZip (λ x y. P y ↔ Q x) xs ys → IsMask P ys m → IsMask Q xs m
  mask_over P Q xs ys m z is = record {
    bits = λ i x h.
        let r = zip_read (λ x y. P y ↔ Q x) xs ys z i x h in
        let b = is.bits i r.0 r.1 in
        (λ set. r.2.0 (b.0 set), λ q. b.1 (r.2.1 q));
    past = λ i h. is.past i (let e = AllZip-long (λ x y. P y ↔ Q x) xs ys z in omega arith);
  }

  pub all_over : (P : B → Type 0) (Q : A → Type 0) (xs : List A) (ys : List B) → AllZip (λ x y. P y ↔ Q x) xs ys → All P ys → All Q xs
  all_over P Q [] ys z a = λ k d l. absurd (omega arith)
  all_over P Q (x ∷ xs) [] z a = absurd z
  all_over P Q (x ∷ xs) (y ∷ ys) z a = All-cons Q x xs (z.0.0 (All-head P y ys a)) (all_over P Q xs ys z.1 (All-tail P y ys a))

  pub all_under : (P : B → Type 0) (Q : A → Type 0) (xs : List A) (ys : List B) → AllZip (λ x y. P y ↔ Q x) xs ys → All Q xs → All P ys
  all_under P Q [] [] z a = λ k d l. absurd (omega arith)
  all_under P Q [] (y ∷ ys) z a = absurd z
  all_under P Q (x ∷ xs) [] z a = λ k d l. absurd (omega arith)
  all_under P Q (x ∷ xs) (y ∷ ys) z a = All-cons P y ys (z.0.1 (All-head Q x xs a)) (all_under P Q xs ys z.1 (All-tail Q x xs a))

-- one place more, in a loop
pub zip_more : {A B : Type 0} (R : A → B → Type 0) (xs : List A) (ys zs : List B) (i : ℕ) (x : A) (y : B) → i < length xs → x ≡ get_or xs i x → zs ≡ ys ++ y ∷ [] →
    AllZip R (take i xs) ys → R x y → AllZip R (take (i + 1) xs) zs
zip_more R xs ys zs i x y lt is e z r =
    let more : take (i + 1) xs ≡ take i xs ++ x ∷ [] = take_more xs i x lt ∙ ap (λ u. take i xs ++ u ∷ []) (sym is) in
    subst (λ u. AllZip R u zs) (sym more) (subst (AllZip R (take i xs ++ x ∷ [])) (sym e) (all_zipped_more R (take i xs) ys x y z r))

-- one relation after another
pub zip_then : {A B C : Type 0} (R : A → B → Type 0) (S : B → C → Type 0) (xs : List A) (ys : List B) (zs : List C) → AllZip R xs ys → AllZip S ys zs →
    AllZip (λ x z. (y : B) × R x y × S y z) xs zs
zip_then R S [] [] zs p q = q
zip_then R S [] (y ∷ ys) zs p q = absurd p
zip_then R S (x ∷ xs) [] zs p q = absurd p
zip_then R S (x ∷ xs) (y ∷ ys) [] p q = q
zip_then R S (x ∷ xs) (y ∷ ys) (z ∷ zs) p q = ((y, p.0, q.0), zip_then R S xs ys zs p.1 q.1)

-- one number more of a list, in a loop
module _ (P : ℕ → Type 0) (xs : List ℕ) (i m : ℕ) (lt : i < length xs) (small : i < 64) (is : IsMask P (take i xs) m) where
  long : length (take i xs) ≡ i
  long = omega (arith, length-take i xs)

  more : take (i + 1) xs ≡ take i xs ++ get_or xs i 0 ∷ []
  more = take_more xs i 0 lt

  pub mask_more_set : P (get_or xs i 0) → IsMask P (take (i + 1) xs) (bit_or m (1 * 2 ^ i % 2 ^ 64))
  mask_more_set p = subst (λ ys. IsMask P ys (bit_or m (1 * 2 ^ i % 2 ^ 64))) (sym more)
      (subst (λ n. IsMask P (take i xs ++ get_or xs i 0 ∷ []) (bit_or m (1 * 2 ^ n % 2 ^ 64))) long
      (mask_set P (take i xs) (get_or xs i 0) m (omega (arith, long)) p is))

  pub mask_more_not : (P (get_or xs i 0) → ⊥) → IsMask P (take (i + 1) xs) m
  mask_more_not none = subst (λ ys. IsMask P ys m) (sym more) (mask_not P (take i xs) (get_or xs i 0) m none is)
