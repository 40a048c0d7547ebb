-- Two lists item by item, and lists joined end to end.
use Rattle.std.proofs.Common.{◌≡◌, ◌≢◌, ℕ, zero, suc, ◌+◌, ◌<◌, ◌≤◌, ◌⊎◌, inl, inr, List, [], ◌∷◌, ◌++◌, length, set, Some, slice_get, refl, sym, ap, ◌∙◌, subst, arith, length-set}
use Rattle.std.specs.List.{AllZip, flat_map}
use Rattle.std.proofs.lemmas.Bool.{cases_lt}
use Rattle.std.proofs.lemmas.Option.{slice_get_within}
use Rattle.fill_arena.specs.Contents.{In, EachIn}

pub zip_get : {A : Type 0} (R : A → A → Type 0) (xs ys : List A) → AllZip R xs ys → (k : ℕ) (x : A) → slice_get xs k ≡ Some x → (y : A) × (slice_get ys k ≡ Some y) × R x y
zip_get R [] ys z k x e = absurd cc
zip_get R (a ∷ xs) [] z k x e = absurd z
zip_get R (a ∷ xs) (b ∷ ys) z zero x e = let same : a ≡ x = cc in (b, refl, subst (λ v. R v b) same z.0)
zip_get R (a ∷ xs) (b ∷ ys) z (suc k) x e = zip_get R xs ys z.1 k x e

pub zip_back : {A : Type 0} (R : A → A → Type 0) (xs ys : List A) → AllZip R xs ys → (k : ℕ) (y : A) → slice_get ys k ≡ Some y → (x : A) × (slice_get xs k ≡ Some x) × R x y
zip_back R [] [] z k y e = absurd cc
zip_back R [] (b ∷ ys) z k y e = absurd z
zip_back R (a ∷ xs) [] z k y e = absurd z
zip_back R (a ∷ xs) (b ∷ ys) z zero y e = let same : b ≡ y = cc in (a, refl, subst (λ v. R a v) same z.0)
zip_back R (a ∷ xs) (b ∷ ys) z (suc k) y e = zip_back R xs ys z.1 k y e

pub zip_flip : {A : Type 0} (R S : A → A → Type 0) → ((x y : A) → R x y → S y x) → (xs ys : List A) → AllZip R xs ys → AllZip S ys xs
zip_flip R S f [] [] z = tt
zip_flip R S f [] (b ∷ ys) z = absurd z
zip_flip R S f (a ∷ xs) [] z = absurd z
zip_flip R S f (a ∷ xs) (b ∷ ys) z = (f a b z.0, zip_flip R S f xs ys z.1)

pub zip_weaker : {A : Type 0} (R S : A → A → Type 0) → ((x y : A) → R x y → S x y) → (xs ys : List A) → AllZip R xs ys → AllZip S xs ys
zip_weaker R S f [] [] z = tt
zip_weaker R S f [] (b ∷ ys) z = absurd z
zip_weaker R S f (a ∷ xs) [] z = absurd z
zip_weaker R S f (a ∷ xs) (b ∷ ys) z = (f a b z.0, zip_weaker R S f xs ys z.1)

pub zip_each : {A : Type 0} (R : A → A → Type 0) (P Q : A → Type 0) → ((x y : A) → R x y → P x → Q y) → (xs ys : List A) → AllZip R xs ys → EachIn P xs → EachIn Q ys
zip_each R P Q f xs ys z each k y at = let x = zip_back R xs ys z k y at in f x.0 y x.2 (each k x.0 x.1)

pub zip_by : {A : Type 0} (R : A → A → Type 0) (xs ys : List A) → length xs ≡ length ys → ((k : ℕ) (x y : A) → slice_get xs k ≡ Some x → slice_get ys k ≡ Some y → R x y) → AllZip R xs ys
zip_by R [] [] long f = tt
zip_by R [] (b ∷ ys) long f = absurd (omega arith)
zip_by R (a ∷ xs) [] long f = absurd (omega arith)
zip_by R (a ∷ xs) (b ∷ ys) long f = (f 0 a b refl refl, zip_by R xs ys (omega arith) (λ k x y h g. f (suc k) x y h g))

-- what is in one of two lists is in both together
pub in_left : {A : Type 0} (xs ys : List A) (i : ℕ) (a : A) → slice_get xs i ≡ Some a → In a (xs ++ ys)
in_left [] ys i a h = absurd cc
in_left (x ∷ xs) ys zero a h = (0, h)
in_left (x ∷ xs) ys (suc i) a h = let r = in_left xs ys i a h in (suc r.0, r.1)

pub in_right : {A : Type 0} (xs ys : List A) (a : A) → In a ys → In a (xs ++ ys)
in_right [] ys a h = h
in_right (x ∷ xs) ys a h = let r = in_right xs ys a h in (suc r.0, r.1)

pub in_both : {A : Type 0} (xs ys : List A) (i : ℕ) (a : A) → slice_get (xs ++ ys) i ≡ Some a → In a xs ⊎ In a ys
in_both [] ys i a h = inr (i, h)
in_both (x ∷ xs) ys zero a h = inl (0, h)
in_both (x ∷ xs) ys (suc i) a h = elim (in_both xs ys i a h) [
  | inl r ↦ inl (suc r.0, r.1)
  | inr r ↦ inr r
]

-- what one item makes is in what all make, and what all make one makes
pub flat_in : {X A : Type 0} (g : X → List A) (xs : List X) (i : ℕ) (x : X) (a : A) → slice_get xs i ≡ Some x → In a (g x) → In a (flat_map g xs)
flat_in g [] i x a at h = absurd cc
flat_in g (y ∷ ys) zero x a at h = let same : x ≡ y = cc in let there = subst (λ z. In a (g z)) same h in in_left (g y) (flat_map g ys) there.0 a there.1
flat_in g (y ∷ ys) (suc i) x a at h = in_right (g y) (flat_map g ys) a (flat_in g ys i x a at h)

pub in_flat : {X A : Type 0} (g : X → List A) (xs : List X) (a : A) → In a (flat_map g xs) → (x : X) × In x xs × In a (g x)
in_flat g [] a h = absurd (let e = h.1 in cc)
in_flat g (y ∷ ys) a h = elim (in_both (g y) (flat_map g ys) h.0 a h.1) [
  | inl l ↦ (y, (0, refl), l)
  | inr r ↦ let there = in_flat g ys a r in (there.0, (suc there.1.0, there.1.1), there.2)
]

pub each_of_flat : {X A : Type 0} (P : A → Type 0) (g : X → List A) (xs : List X) → EachIn P (flat_map g xs) → (i : ℕ) (x : X) → slice_get xs i ≡ Some x → EachIn P (g x)
each_of_flat P g xs each i x at k a there = let r = flat_in g xs i x a at (k, there) in each r.0 a r.1

pub each_flat : {X A : Type 0} (P : A → Type 0) (g : X → List A) (xs : List X) → ((i : ℕ) (x : X) → slice_get xs i ≡ Some x → EachIn P (g x)) → EachIn P (flat_map g xs)
each_flat P g xs f k a there = let r = in_flat g xs a (k, there) in f r.1.0 r.0 r.1.1 r.2.0 a r.2.1

-- where items make related things, so do lists of them
pub flat_zip : {X A : Type 0} (B : X → X → Type 0) (R : A → A → Type 0) (g : X → List A) → ((x y : X) → B x y → (s : A) → In s (g x) → (n : A) × R s n × In n (g y)) → (xs ys : List X) → AllZip B xs ys
    → (s : A) → In s (flat_map g xs) → (n : A) × R s n × In n (flat_map g ys)
flat_zip B R g f xs ys z s h =
    let from = in_flat g xs s h in
    let to = zip_get B xs ys z from.1.0 from.0 from.1.1 in
    let there = f from.0 to.0 to.2 s from.2 in
    (there.0, there.1, flat_in g ys from.1.0 to.0 there.0 to.1 there.2)

-- a list after a write
pub set_here : {A : Type 0} (xs : List A) (i : ℕ) (y : A) → i < length xs → slice_get (set xs i y) i ≡ Some y
set_here [] i y h = absurd (omega arith)
set_here (x ∷ xs) zero y h = refl
set_here (x ∷ xs) (suc i) y h = set_here xs i y (omega arith)

pub set_other : {A : Type 0} (xs : List A) (i k : ℕ) (y : A) → k ≢ i → slice_get (set xs i y) k ≡ slice_get xs k
set_other [] i k y other = refl
set_other (x ∷ xs) zero zero y other = absurd (other refl)
set_other (x ∷ xs) zero (suc k) y other = refl
set_other (x ∷ xs) (suc i) zero y other = refl
set_other (x ∷ xs) (suc i) (suc k) y other = set_other xs i k y (λ e. other (ap suc e))

-- the items before a place are related to those that stood there, and the rest stands as it stood
pub record IsZippedTo {A : Type 0} (R : A → A → Type 0) (i : ℕ) (before now : List A) : Type 0 where
  pub long : length before ≡ length now
  pub done : (k : ℕ) (x y : A) → k < i → slice_get before k ≡ Some x → slice_get now k ≡ Some y → R x y
  pub rest : (k : ℕ) → i ≤ k → slice_get now k ≡ slice_get before k

pub zipped_start : {A : Type 0} (R : A → A → Type 0) (xs : List A) → IsZippedTo R 0 xs xs
zipped_start R xs = record { long = refl; done = λ k x y lt h g. absurd (omega arith); rest = λ k le. refl }

pub zipped_more : {A : Type 0} (R : A → A → Type 0) (i : ℕ) (before now : List A) (x y : A) → slice_get now i ≡ Some x → R x y → IsZippedTo R i before now → IsZippedTo R (i + 1) before (set now i y)
zipped_more {A} R i before now x y at r z =
    let within = slice_get_within now i x at in
    record {
      long = z.long ∙ sym (length-set now i y);
      done = λ k a b lt h g. elim (cases_lt k i) [
        | inl less ↦ let other : k ≢ i = omega arith in z.done k a b less h (sym (set_other now i k y other) ∙ g)
        | inr past ↦
            let same : k ≡ i = omega arith in
            let was : slice_get before i ≡ Some a = subst (λ j. slice_get before j ≡ Some a) same h in
            let is : slice_get (set now i y) i ≡ Some b = subst (λ j. slice_get (set now i y) j ≡ Some b) same g in
            let old = z.rest i (omega arith) in
            let new = set_here now i y within in
            let first : x ≡ a = cc in
            let second : y ≡ b = cc in
            subst (λ v. R v b) first (subst (R x) second r)
      ];
      rest = λ k le. let other : k ≢ i = omega arith in set_other now i k y other ∙ z.rest k (omega arith);
    }

pub zipped_end : {A : Type 0} (R : A → A → Type 0) (i : ℕ) (before now : List A) → length now ≤ i → IsZippedTo R i before now → AllZip R before now
zipped_end R i before now past z = zip_by R before now z.long (λ k x y h g.
    let within = slice_get_within now k y g in
    z.done k x y (omega arith) h g)
