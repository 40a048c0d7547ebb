-- Rows of a part and their numbers in the long sheet.
use Rattle.std.proofs.Common.{◌≡◌, ◌∙◌, ℕ, zero, suc, ◌<◌, ◌≤◌, List, [], ◌∷◌, length, get_or, slice_get, Contains, Some, Result, Ok, Err, MatchResult, arith, subst, sym, ⊎_elim}
use Rattle.std.specs.List.{AllZip}
use Rattle.std.specs.List.Sorted.{IsBinarySearchResult}
use Rattle.std.specs.Ordering.{nat_cmp}
use Rattle.std.proofs.lemmas.Bool.{cases_lt}
use Rattle.std.proofs.lemmas.Grind.{get_or_default_zero}
use Rattle.std.proofs.lemmas.List.{get_or_default}
use Rattle.std.proofs.lemmas.List.Sorted.{searched}
use Rattle.std.proofs.lemmas.Result.{MatchResult-at_err}
use Rattle.fill_text.specs.Data.{RowData, nth}
use Rattle.fillcsv_blocks.specs.Numbers.{HasRow, Rise, number_at}

-- a row of the part is the row of its number in the long sheet
pub row_same : (long : List RowData) (numbers : List ℕ) (rows : List RowData) → AllZip (HasRow long) numbers rows → (row : ℕ) → 1 ≤ row → row ≤ length rows → nth rows row ≡ nth long (number_at numbers row)
row_same long [] [] z row first last = absurd (omega (arith, first, last))
row_same long [] (x ∷ rows) z row first last = absurd z
row_same long (n ∷ numbers) [] z row first last = absurd z
row_same long (n ∷ numbers) (x ∷ rows) z zero first last = absurd (omega (arith, first))
row_same long (n ∷ numbers) (x ∷ rows) z (suc zero) first last = sym z.0
row_same long (n ∷ numbers) (x ∷ rows) z (suc (suc above)) first last = row_same long numbers rows z.1 (suc above) (omega arith) (omega (arith, last))

-- rows of the part are in the order of their numbers
pub order_kept : (numbers : List ℕ) → Rise numbers → (r q : ℕ) → 1 ≤ r → q ≤ length numbers → r < q → number_at numbers r < number_at numbers q
order_kept numbers rise zero q first last less = absurd (omega (arith, first))
order_kept numbers rise (suc r) zero first last less = absurd (omega (arith, less))
order_kept numbers rise (suc r) (suc q) first last less = rise r q 0 (omega (arith, less)) (omega (arith, last))

is_within : (long : List RowData) (above : ℕ) (x : RowData) → slice_get long above ≡ Some x → above < length long
is_within [] above x is = absurd cc
is_within (y ∷ long) zero x is = omega arith
is_within (y ∷ long) (suc above) x is = let lt = is_within long above x is in omega (arith, lt)

number_of_row : (long : List RowData) (number : ℕ) (x : RowData) → HasRow long number x → (1 ≤ number) × (number ≤ length long)
number_of_row long zero x is = absurd cc
number_of_row long (suc above) x is = let lt = is_within long above x is in (omega arith, omega (arith, lt))

-- each number is that of a row of the long sheet
pub number_within : (long : List RowData) (numbers : List ℕ) (rows : List RowData) → AllZip (HasRow long) numbers rows → (row : ℕ) → 1 ≤ row → row ≤ length rows
    → (1 ≤ number_at numbers row) × (number_at numbers row ≤ length long)
number_within long [] [] z row first last = absurd (omega (arith, first, last))
number_within long [] (x ∷ rows) z row first last = absurd z
number_within long (n ∷ numbers) [] z row first last = absurd z
number_within long (n ∷ numbers) (x ∷ rows) z zero first last = absurd (omega (arith, first))
number_within long (n ∷ numbers) (x ∷ rows) z (suc zero) first last = number_of_row long n x z.0
number_within long (n ∷ numbers) (x ∷ rows) z (suc (suc above)) first last = number_within long numbers rows z.1 (suc above) (omega arith) (omega (arith, last))

not_falling : (numbers : List ℕ) → Rise numbers → (i j : ℕ) → i ≤ j → j < length numbers → get_or numbers i 0 ≤ get_or numbers j 0
not_falling numbers rise i j le lt = ⊎_elim
    (λ less. let up = rise i j 0 less lt in omega (arith, up))
    (λ most. let same : i ≡ j = omega (arith, le, most) in subst (λ k. get_or numbers i 0 ≤ get_or numbers k 0) same (omega arith))
    (cases_lt i j)

-- what a search for a number of the list finds
pub found : (numbers : List ℕ) → Rise numbers → (number : ℕ) → Contains numbers number → (r : Result ℕ ℕ) → IsBinarySearchResult (λ y. nat_cmp y number) numbers r
    → MatchResult r (λ above. (above < length numbers) × (get_or numbers above 0 ≡ number)) (λ place. ⊥)
found numbers rise number has (Ok above) result = searched numbers number (Ok above) result (not_falling numbers rise)
found numbers rise number has (Err place) result =
    let s = searched numbers number (Err place) result (not_falling numbers rise) in
    let is = has.2 in
    let same = get_or_default_zero numbers has.0 number has.1 in
    ⊎_elim (λ less. let below = s.1 has.0 less in omega (arith, below, same, is)) (λ most. let over = s.2 has.0 most has.1 in omega (arith, over, same, is)) (cases_lt has.0 place)

-- a number that is found is there
pub has_found : (numbers : List ℕ) → Rise numbers → (number : ℕ) (r : Result ℕ ℕ) → IsBinarySearchResult (λ y. nat_cmp y number) numbers r → (above : ℕ) → r ≡ Ok above
    → (above < length numbers) × (get_or numbers above 0 ≡ number) × Contains numbers number
has_found numbers rise number (Ok above) result other is =
    let s = searched numbers number (Ok above) result (not_falling numbers rise) in
    let one : above ≡ other = cc in
    subst (λ k. (k < length numbers) × (get_or numbers k 0 ≡ number) × Contains numbers number) one (s.0, s.1, (above, s.0, get_or_default numbers above number 0 s.0 ∙ s.1))
has_found numbers rise number (Err place) result other is = absurd cc

-- a number that is not found is not there
pub lacks : (numbers : List ℕ) → Rise numbers → (number : ℕ) (r : Result ℕ ℕ) → IsBinarySearchResult (λ y. nat_cmp y number) numbers r → (place : ℕ) → r ≡ Err place → Contains numbers number → ⊥
lacks numbers rise number r result place is has =
    MatchResult-at_err (λ above. (above < length numbers) × (get_or numbers above 0 ≡ number)) (λ other. ⊥) place is (found numbers rise number has r result)
