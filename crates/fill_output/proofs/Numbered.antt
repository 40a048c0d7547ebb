-- Lists by the numbers from 1 on.
use Rattle.std.proofs.Common.{◌≡◌, ℕ, zero, suc, ◌+◌, List, [], ◌∷◌, ◌++◌, sym, ap, ◌∙◌, subst, arith}
use Rattle.std.specs.List.{AllZip, range_with_len}

range_suc : (a n : ℕ) → range_with_len a (suc n) ≡ range_with_len a n ++ (a + n) ∷ []
range_suc a zero = let e : a ≡ a + 0 = omega arith in ap (λ (k : ℕ). k ∷ []) e
range_suc a (suc n) =
    let e : a + 1 + n ≡ a + suc n = omega arith in
    ap (λ (l : List ℕ). a ∷ l) (range_suc (a + 1) n) ∙ ap (λ (k : ℕ). a ∷ (range_with_len (a + 1) n ++ k ∷ [])) e

-- the numbers from 1 on, and one more
pub range_more : (n : ℕ) → range_with_len 1 (n + 1) ≡ range_with_len 1 n ++ (n + 1) ∷ []
range_more n =
    let s : n + 1 ≡ suc n = omega arith in
    let e : 1 + n ≡ n + 1 = omega arith in
    ap (range_with_len 1) s ∙ range_suc 1 n ∙ ap (λ (k : ℕ). range_with_len 1 n ++ k ∷ []) e

zip_push : {A B : Type 0} (R : A → B → Type 0) (xs : List A) (ys : List B) (x : A) (y : B) → AllZip R xs ys → R x y → AllZip R (xs ++ x ∷ []) (ys ++ y ∷ [])
zip_push R [] [] x y h r = (r, tt)
zip_push R [] (b ∷ ys) x y h r = absurd h
zip_push R (a ∷ xs) [] x y h r = absurd h
zip_push R (a ∷ xs) (b ∷ ys) x y h r = (h.0, zip_push R xs ys x y h.1 r)

-- what holds of the first rows, and of the next one
pub rows_more : {B : Type 0} (R : ℕ → B → Type 0) (n : ℕ) (ys : List B) (y : B) → AllZip R (range_with_len 1 n) ys → R (n + 1) y → AllZip R (range_with_len 1 (n + 1)) (ys ++ y ∷ [])
rows_more R n ys y h r =
    subst (λ (l : List ℕ). AllZip R l (ys ++ y ∷ [])) (sym (range_more n)) (zip_push R (range_with_len 1 n) ys (n + 1) y h r)
