-- Tables with one entry for each node.
use Rattle.std.proofs.Common.{◌≡◌, ◌≢◌, ℕ, zero, suc, ◌<◌, ◌⊎◌, inl, inr, List, [], ◌∷◌, length, set, replicate, Some, slice_get, refl, ap, arith}

pub set_same : {A : Type 0} (xs : List A) (i : ℕ) (x : A) → i < length xs → slice_get (set xs i x) i ≡ Some x
set_same [] i x h = absurd (omega arith)
set_same (a ∷ xs) zero x h = refl
set_same (a ∷ xs) (suc i) x h = set_same xs i x (omega arith)

pub set_other : {A : Type 0} (xs : List A) (i j : ℕ) (x : A) → j ≢ i → slice_get (set xs i x) j ≡ slice_get xs j
set_other [] i j x n = refl
set_other (a ∷ xs) zero zero x n = absurd (n refl)
set_other (a ∷ xs) zero (suc j) x n = refl
set_other (a ∷ xs) (suc i) zero x n = refl
set_other (a ∷ xs) (suc i) (suc j) x n = set_other xs i j x (λ e. n (ap suc e))

get_replicate : {A : Type 0} (n k : ℕ) (y z : A) → slice_get (replicate n y) k ≡ Some z → y ≡ z
get_replicate zero k y z h = absurd cc
get_replicate (suc n) zero y z h = cc
get_replicate (suc n) (suc k) y z h = get_replicate n k y z h

pub set_first : {A : Type 0} (n : ℕ) (x y : A) → 0 < n → slice_get (set (replicate n y) 0 x) 0 ≡ Some x
set_first zero x y h = absurd (omega arith)
set_first (suc n) x y h = refl

pub set_first_others : {A : Type 0} (n k : ℕ) (x y z : A) → slice_get (set (replicate n y) 0 x) k ≡ Some z → ((k ≡ 0) × (x ≡ z)) ⊎ (y ≡ z)
set_first_others zero k x y z h = absurd cc
set_first_others (suc n) zero x y z h = inl (refl, cc)
set_first_others (suc n) (suc k) x y z h = inr (get_replicate n k y z h)
