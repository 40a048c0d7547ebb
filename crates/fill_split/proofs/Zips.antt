-- two lists item by item, and what stands at a place of a list
use Rattle.std.proofs.Common.{◌≡◌, ℕ, zero, suc, ◌+◌, ◌<◌, List, [], ◌∷◌, ◌++◌, length, set, take, drop, get_or, Some, refl, ap, ◌∙◌, subst, arith}
use Rattle.std.specs.Prelude.{slice_get}
use Rattle.std.specs.List.{AllZip}
use Rattle.std.proofs.lemmas.Option.{slice_get_read}

pub here : {X : Type 0} (xs : List X) (i : ℕ) (x : X) → i < length xs → x ≡ get_or xs i x → slice_get xs i ≡ Some x
here xs i x h e = slice_get_read xs (length xs) i x refl h e

pub zip_lengths : {X Y : Type 0} (R : X → Y → Type 0) (xs : List X) (ys : List Y) → AllZip R xs ys → length ys ≡ length xs
zip_lengths R [] [] z = refl
zip_lengths R [] (y ∷ ys) z = absurd z
zip_lengths R (x ∷ xs) [] z = absurd z
zip_lengths R (x ∷ xs) (y ∷ ys) z = ap suc (zip_lengths R xs ys z.1)

pub zip_some : {X Y : Type 0} (R : X → Y → Type 0) (xs : List X) (ys : List Y) (k : ℕ) (x : X) → AllZip R xs ys → slice_get xs k ≡ Some x → (y : Y) × (slice_get ys k ≡ Some y) × R x y
zip_some R [] ys k x z e = absurd cc
zip_some R (a ∷ xs) [] k x z e = absurd z
zip_some R (a ∷ xs) (b ∷ ys) zero x z e = let ax : a ≡ x = cc in (b, refl, subst (λ v. R v b) ax z.0)
zip_some R (a ∷ xs) (b ∷ ys) (suc k) x z e = zip_some R xs ys k x z.1 e

-- the same, from the second list
pub zip_from : {X Y : Type 0} (R : X → Y → Type 0) (xs : List X) (ys : List Y) (k : ℕ) (y : Y) → AllZip R xs ys → slice_get ys k ≡ Some y → (x : X) × R x y
zip_from R [] [] k y z e = absurd cc
zip_from R [] (b ∷ ys) k y z e = absurd z
zip_from R (a ∷ xs) [] k y z e = absurd z
zip_from R (a ∷ xs) (b ∷ ys) zero y z e = let by : b ≡ y = cc in (a, subst (λ v. R a v) by z.0)
zip_from R (a ∷ xs) (b ∷ ys) (suc k) y z e = zip_from R xs ys k y z.1 e

pub zip_set : {X Y : Type 0} (R : X → Y → Type 0) (xs : List X) (ys : List Y) (i : ℕ) (x : X) (y : Y) → AllZip R xs ys → R x y → AllZip R (set xs i x) (set ys i y)
zip_set R [] [] i x y z r = tt
zip_set R [] (b ∷ ys) i x y z r = absurd z
zip_set R (a ∷ xs) [] i x y z r = absurd z
zip_set R (a ∷ xs) (b ∷ ys) zero x y z r = (r, z.1)
zip_set R (a ∷ xs) (b ∷ ys) (suc i) x y z r = (z.0, zip_set R xs ys i x y z.1 r)

pub zip_append : {X Y : Type 0} (R : X → Y → Type 0) (xs : List X) (ys : List Y) (us : List X) (vs : List Y) → AllZip R xs ys → AllZip R us vs → AllZip R (xs ++ us) (ys ++ vs)
zip_append R [] [] us vs z w = w
zip_append R [] (y ∷ ys) us vs z w = absurd z
zip_append R (x ∷ xs) [] us vs z w = absurd z
zip_append R (x ∷ xs) (y ∷ ys) us vs z w = (z.0, zip_append R xs ys us vs z.1 w)

pub zip_push : {X Y : Type 0} (R : X → Y → Type 0) (xs : List X) (ys : List Y) (x : X) (y : Y) → AllZip R xs ys → R x y → AllZip R (xs ++ x ∷ []) (ys ++ y ∷ [])
zip_push R xs ys x y z r = zip_append R xs ys (x ∷ []) (y ∷ []) z (r, tt)

pub zip_take : {X Y : Type 0} (R : X → Y → Type 0) (n : ℕ) (xs : List X) (ys : List Y) → AllZip R xs ys → AllZip R (take n xs) (take n ys)
zip_take R zero xs ys z = tt
zip_take R (suc n) [] [] z = tt
zip_take R (suc n) [] (y ∷ ys) z = absurd z
zip_take R (suc n) (x ∷ xs) [] z = absurd z
zip_take R (suc n) (x ∷ xs) (y ∷ ys) z = (z.0, zip_take R n xs ys z.1)

pub zip_drop : {X Y : Type 0} (R : X → Y → Type 0) (n : ℕ) (xs : List X) (ys : List Y) → AllZip R xs ys → AllZip R (drop n xs) (drop n ys)
zip_drop R zero xs ys z = z
zip_drop R (suc n) [] [] z = tt
zip_drop R (suc n) [] (y ∷ ys) z = absurd z
zip_drop R (suc n) (x ∷ xs) [] z = absurd z
zip_drop R (suc n) (x ∷ xs) (y ∷ ys) z = zip_drop R n xs ys z.1

pub zip_weaker : {X Y : Type 0} (R S : X → Y → Type 0) → ((x : X) (y : Y) → R x y → S x y) → (xs : List X) (ys : List Y) → AllZip R xs ys → AllZip S xs ys
zip_weaker R S f [] [] z = tt
zip_weaker R S f [] (b ∷ ys) z = z
zip_weaker R S f (a ∷ xs) [] z = z
zip_weaker R S f (a ∷ xs) (b ∷ ys) z = (f a b z.0, zip_weaker R S f xs ys z.1)

pub get_front : {X : Type 0} (xs ys : List X) (i : ℕ) (x : X) → slice_get xs i ≡ Some x → slice_get (xs ++ ys) i ≡ Some x
get_front [] ys i x e = absurd cc
get_front (a ∷ xs) ys zero x e = e
get_front (a ∷ xs) ys (suc i) x e = get_front xs ys i x e

pub get_next : {X : Type 0} (xs : List X) (x : X) → slice_get (xs ++ x ∷ []) (length xs) ≡ Some x
get_next [] x = refl
get_next (a ∷ xs) x = get_next xs x

pub take_next : {X : Type 0} (xs : List X) (i : ℕ) (x : X) → slice_get xs i ≡ Some x → take (i + 1) xs ≡ take i xs ++ x ∷ []
take_next xs i x h = let e : i + 1 ≡ suc i = omega arith in ap (λ n. take n xs) e ∙ go xs i x h
  where
    go : {X : Type 0} (xs : List X) (i : ℕ) (x : X) → slice_get xs i ≡ Some x → take (suc i) xs ≡ take i xs ++ x ∷ []
    go [] i x h = absurd cc
    go (a ∷ xs) zero x h = let e : a ≡ x = cc in ap (λ v. v ∷ []) e
    go (a ∷ xs) (suc i) x h = ap (λ l. a ∷ l) (go xs i x h)
