-- What stands at a place of a list that has grown or was cut.
use Rattle.std.proofs.Common.{◌≡◌, ℕ, zero, suc, ◌<◌, ◌≤◌, ◌⊎◌, inl, inr, List, [], ◌∷◌, ◌++◌, length, take, Some, slice_get, refl, sym, ap, ◌∙◌, arith}
use Rattle.std.proofs.lemmas.Option.{slice_get_within}
use Rattle.fill_arena.specs.Contents.{Extends}
use Rattle.fill_arena.specs.declared.entry.Entry.{Entry}

pub get_left : {A : Type 0} (xs ys : List A) (n : ℕ) → n < length xs → slice_get (xs ++ ys) n ≡ slice_get xs n
get_left [] ys n h = absurd (omega arith)
get_left (x ∷ xs) ys zero h = refl
get_left (x ∷ xs) ys (suc n) h = get_left xs ys n (omega arith)

pub get_last : {A : Type 0} (xs : List A) (y : A) → slice_get (xs ++ y ∷ []) (length xs) ≡ Some y
get_last [] y = refl
get_last (x ∷ xs) y = get_last xs y

pub get_pushed : {A : Type 0} (xs : List A) (y : A) (n : ℕ) (x : A) → slice_get (xs ++ y ∷ []) n ≡ Some x
    → ((n < length xs) × (slice_get xs n ≡ Some x)) ⊎ ((n ≡ length xs) × (y ≡ x))
get_pushed [] y zero x h = inr (refl, cc)
get_pushed [] y (suc n) x h = absurd cc
get_pushed (z ∷ xs) y zero x h = inl (omega arith, h)
get_pushed (z ∷ xs) y (suc n) x h = elim (get_pushed xs y n x h) [
  | inl a ↦ let l = a.0 in inl (omega arith, a.1)
  | inr b ↦ let l = b.0 in inr (ap suc l, b.1)
]

pub get_taken : {A : Type 0} (m : ℕ) (xs : List A) (n : ℕ) → n < m → slice_get (take m xs) n ≡ slice_get xs n
get_taken zero xs n h = absurd (omega arith)
get_taken (suc m) [] n h = refl
get_taken (suc m) (x ∷ xs) zero h = refl
get_taken (suc m) (x ∷ xs) (suc n) h = get_taken m xs n (omega arith)

pub get_of_taken : {A : Type 0} (m : ℕ) (xs : List A) (n : ℕ) (x : A) → slice_get (take m xs) n ≡ Some x → (n < m) × (slice_get xs n ≡ Some x)
get_of_taken zero xs n x h = absurd cc
get_of_taken (suc m) [] n x h = absurd cc
get_of_taken (suc m) (y ∷ xs) zero x h = (omega arith, h)
get_of_taken (suc m) (y ∷ xs) (suc n) x h = let r = get_of_taken m xs n x h in let l = r.0 in (omega arith, r.1)

pub get_there : {A : Type 0} (xs : List A) (n : ℕ) → n < length xs → (x : A) × (slice_get xs n ≡ Some x)
get_there [] n h = absurd (omega arith)
get_there (x ∷ xs) zero h = (x, refl)
get_there (x ∷ xs) (suc n) h = get_there xs n (omega arith)

-- an arena with one more entry, and one that is cut, extend what they have
pub extends_pushed : (c : List Entry) (e : Entry) → Extends c (c ++ e ∷ [])
extends_pushed c e n x h = get_left c (e ∷ []) n (slice_get_within c n x h) ∙ h

pub extends_taken : (c : List Entry) (m : ℕ) → Extends (take m c) c
extends_taken c m n x h = (get_of_taken m c n x h).1

pub extends_same : (c : List Entry) → Extends c c
extends_same c n x h = h

pub extends_on : (c d e : List Entry) → Extends c d → Extends d e → Extends c e
extends_on c d e f g n x h = g n x (f n x h)

-- the front of what extends an arena is that arena
front : {A : Type 0} (xs ys : List A) → ((n : ℕ) (x : A) → slice_get xs n ≡ Some x → slice_get ys n ≡ Some x) → take (length xs) ys ≡ xs
front [] ys f = refl
front (x ∷ xs) [] f = let h = f 0 x refl in cc
front (x ∷ xs) (y ∷ ys) f =
    let head : y ≡ x = (let h = f 0 x refl in cc) in
    let rest : take (length xs) ys ≡ xs = front xs ys (λ n z h. f (suc n) z h) in
    cc

pub extends_front : (c d : List Entry) → Extends c d → take (length c) d ≡ c
extends_front c d f = front c d f

-- below a number of the smaller arena both have the same
pub extends_agree : (c d : List Entry) (n : ℕ) → Extends c d → n ≤ length c → (s : ℕ) → s < n → slice_get d s ≡ slice_get c s
extends_agree c d n f le s lt = let there = get_there c s (omega arith) in f s there.0 there.1 ∙ sym there.1
