-- The widths of records, and the columns from the first to another.
use Rattle.std.proofs.Common.{◌≡◌, ℕ, zero, suc, ◌+◌, ◌<◌, ◌≤◌, List, [], ◌∷◌, ◌++◌, length, get_or, All, refl, arith}
use Rattle.std.specs.List.{range_with_len}
use Rattle.std.proofs.lemmas.List.FromFn.{length-range_with_len, get_or-range_with_len}
use Rattle.fill_tables.specs.Reading.{columns_to, width_of}

-- columns count from 1
pub columns_counted : (width : ℕ) → All (λ column. 0 < column) (columns_to width)
columns_counted width = λ k d lt.
    let size = length-range_with_len 1 width in
    let here = get_or-range_with_len 1 width k d (omega arith) in
    omega (arith, here)

-- one more column
range-more : (a n : ℕ) → range_with_len a (n + 1) ≡ range_with_len a n ++ (a + n) ∷ []
range-more a zero = let same : a + 0 ≡ a = omega arith in rw same refl
range-more a (suc n) =
    let size : suc n + 1 ≡ suc (n + 1) = omega arith in
    let last : a + suc n ≡ a + 1 + n = omega arith in
    rw (size, last, range-more (a + 1) n) refl

pub columns_more : (n : ℕ) → columns_to n ++ (n + 1) ∷ [] ≡ columns_to (n + 1)
columns_more n = let last : 1 + n ≡ n + 1 = omega arith in rw (range-more 1 n, last) refl

pub width_of-narrow : (records : List (List (List ℕ))) → width_of records ≤ 1000
width_of-narrow [] = omega arith
width_of-narrow (fields ∷ more) = let rest = width_of-narrow more in omega arith
