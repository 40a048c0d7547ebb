-- The order of sets of columns.
use Rattle.std.proofs.Common.{◌≡◌, ℕ, ◌<◌, List, [], ◌∷◌, ◌++◌, length, refl, sym, ap, ◌∙◌}
use Rattle.std.specs.declared.cmp.Ordering.TheVariants.{Less, Equal}
use Rattle.std.specs.Ordering.{nat_cmp, ordering_then}
use Rattle.std.specs.Cmp.{nat_cmp_is}
use Rattle.std.specs.Cmp.Lexicographic.{slice_cmp}
use Rattle.fill_keys.specs.Keys.{keys_cmp}

nat_less : (m n : ℕ) → m < n → nat_cmp m n ≡ Less
nat_less m n h = sym (nat_cmp_is m n Less h)

nat_same : (m n : ℕ) → m ≡ n → nat_cmp m n ≡ Equal
nat_same m n h = sym (nat_cmp_is m n Equal h)

-- fewer columns come first
pub fewer_less : (xs ys : List ℕ) → length xs < length ys → keys_cmp xs ys ≡ Less
fewer_less xs ys h = ap (λ o. ordering_then o (slice_cmp nat_cmp xs ys)) (nat_less (length xs) (length ys) h)

-- among equally many the first that differs decides
same_length : (xs ys : List ℕ) → length xs ≡ length ys → keys_cmp xs ys ≡ slice_cmp nat_cmp xs ys
same_length xs ys e = ap (λ o. ordering_then o (slice_cmp nat_cmp xs ys)) (nat_same (length xs) (length ys) e)

first_less : (base more others : List ℕ) (x y : ℕ) → x < y → slice_cmp nat_cmp ((base ++ x ∷ []) ++ more) ((base ++ y ∷ []) ++ others) ≡ Less
first_less [] more others x y h = ap (λ o. ordering_then o (slice_cmp nat_cmp more others)) (nat_less x y h)
first_less (b ∷ bs) more others x y h =
    ap (λ o. ordering_then o (slice_cmp nat_cmp ((bs ++ x ∷ []) ++ more) ((bs ++ y ∷ []) ++ others))) (nat_same b b refl) ∙ first_less bs more others x y h

pub base_less : (base more others xs ys : List ℕ) (x y : ℕ) → xs ≡ (base ++ x ∷ []) ++ more → ys ≡ (base ++ y ∷ []) ++ others → length xs ≡ length ys → x < y → keys_cmp xs ys ≡ Less
base_less base more others xs ys x y e f l h =
    same_length xs ys l ∙ ap (λ v. slice_cmp nat_cmp v ys) e ∙ ap (slice_cmp nat_cmp ((base ++ x ∷ []) ++ more)) f ∙ first_less base more others x y h
