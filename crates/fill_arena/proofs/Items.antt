-- Lists from the back, and with one item set.
use Rattle.std.proofs.Common.{◌≡◌, ◌≢◌, ℕ, zero, suc, ◌+◌, ◌<◌, List, [], ◌∷◌, length, drop, Some, Result, Ok, Err, refl, sym, ap, ◌∙◌, slice_get, arith}
use Rattle.std.proofs.Math.ListN.{set}
use Rattle.std.specs.Result.{IfOk}
use Rattle.fill_arena.specs.Contents.{EachIn}

pub ok_on : {A E : Type 0} (P Q : A → Type 0) (r : Result A E) → IfOk r P → ((x : A) → P x → Q x) → IfOk r Q
ok_on P Q (Ok x) h f = f x h
ok_on P Q (Err e) h f = h

pub drop_whole : {A : Type 0} (xs : List A) → drop (length xs) xs ≡ []
drop_whole [] = refl
drop_whole (x ∷ xs) = drop_whole xs

pub drop_here : {A : Type 0} (xs : List A) (n : ℕ) (x : A) → slice_get xs n ≡ Some x → drop n xs ≡ x ∷ drop (suc n) xs
drop_here [] n x h = cc
drop_here (y ∷ xs) zero x h = let e : y ≡ x = cc in ap (λ z. z ∷ xs) e
drop_here (y ∷ xs) (suc n) x h = drop_here xs n x h

pub get_dropped : {A : Type 0} (xs : List A) (n k : ℕ) → slice_get (drop n xs) k ≡ slice_get xs (n + k)
get_dropped [] zero k = refl
get_dropped [] (suc n) k = refl
get_dropped (x ∷ xs) zero k = let e : k ≡ 0 + k = omega arith in ap (slice_get (x ∷ xs)) e
get_dropped (x ∷ xs) (suc n) k = let e : suc (n + k) ≡ suc n + k = omega arith in get_dropped xs n k ∙ ap (slice_get (x ∷ xs)) e

pub set_here : {A : Type 0} (xs : List A) (n : ℕ) (v : A) → n < length xs → slice_get (set xs n v) n ≡ Some v
set_here [] n v lt = absurd (omega arith)
set_here (x ∷ xs) zero v lt = refl
set_here (x ∷ xs) (suc n) v lt = set_here xs n v (omega arith)

pub set_apart : {A : Type 0} (xs : List A) (n : ℕ) (v : A) (m : ℕ) → m ≢ n → slice_get (set xs n v) m ≡ slice_get xs m
set_apart [] n v m apart = refl
set_apart (x ∷ xs) zero v zero apart = absurd (apart refl)
set_apart (x ∷ xs) zero v (suc m) apart = refl
set_apart (x ∷ xs) (suc n) v zero apart = refl
set_apart (x ∷ xs) (suc n) v (suc m) apart = set_apart xs n v m (λ e. apart (ap suc e))

pub dropped_later : {A : Type 0} (xs : List A) (n left : ℕ) → suc n ≡ left → (k : ℕ) → slice_get (drop left xs) k ≡ slice_get xs (n + 1 + k)
dropped_later xs n left next k = let same : left + k ≡ n + 1 + k = omega arith in get_dropped xs left k ∙ ap (slice_get xs) same

-- what is true of each item is true of each of the last ones
pub each_dropped : {A : Type 0} (P : A → Type 0) (xs : List A) (n : ℕ) → EachIn P xs → EachIn P (drop n xs)
each_dropped P xs n each k x h = each (n + k) x (sym (get_dropped xs n k) ∙ h)
