-- Examples whose rows rise, from one to the next.
use Rattle.std.proofs.Common.{◌≡◌, ℕ, zero, suc, ◌+◌, ◌<◌, ◌≤◌, ◌==◌, nat_lt, nat_le, Bool, cond, true, false, List, [], ◌∷◌, length, get_or, count_by, refl, sym, ap, ◌∙◌, subst, ⊎_elim, arith}
use Rattle.std.specs.List.{prefix_len}
use Rattle.std.proofs.lemmas.Bool.{lt-ltb, le-ltb, le-leb, lt-leb, eq-eqb, ne_eqb, cases_order, cases_lt}
use Rattle.std.proofs.lemmas.List.Sums.{prefix_len_is, sum_by-cons}
use Rattle.std.specs.List.Sorted.{IsNonDecreasingBy, IsPartitionPoint}
use Rattle.fill_tree.specs.declared.user.Example.{Example}
use Rattle.fill_session.specs.Edits.{AreExamples, without_example}
use Rattle.fill_session.specs.Outcome.{has_example}

-- all rows are later than this
abbrev pub Above : ℕ → List Example → Type 0
Above n [] = Unit {0}
Above n (x ∷ xs) = (n < x.row) × Above n xs

-- each row is later than the one before it
abbrev pub Rises : List Example → Type 0
Rises [] = Unit {0}
Rises (x ∷ xs) = Above x.row xs × Rises xs

above : (n : ℕ) (xs : List Example) → ((j : ℕ) (d : Example) → j < length xs → n < (get_or xs j d).row) → Above n xs
above n [] h = tt
above n (x ∷ xs) h = (h 0 x (omega arith), above n xs (λ j d lt. h (suc j) d (omega arith)))

pub rises : (xs : List Example) → AreExamples xs → Rises xs
rises [] h = tt
rises (x ∷ xs) h =
    (above x.row xs (λ j d lt. h 0 (suc j) d (omega arith) (omega arith)), rises xs (λ i j d less lt. h (suc i) (suc j) d (omega arith) (omega arith)))

above_at : (n : ℕ) (xs : List Example) → Above n xs → (j : ℕ) (d : Example) → j < length xs → n < (get_or xs j d).row
above_at n [] h j d lt = absurd (omega arith)
above_at n (x ∷ xs) h zero d lt = h.0
above_at n (x ∷ xs) h (suc j) d lt = above_at n xs h.1 j d (omega arith)

pub are_examples : (xs : List Example) → Rises xs → AreExamples xs
are_examples [] h i j d less lt = absurd (omega arith)
are_examples (x ∷ xs) h i zero d less lt = absurd (omega arith)
are_examples (x ∷ xs) h zero (suc j) d less lt = above_at x.row xs h.0 j d (omega arith)
are_examples (x ∷ xs) h (suc i) (suc j) d less lt = are_examples xs h.1 i j d (omega arith) (omega arith)

pub above_less : (m n : ℕ) (xs : List Example) → m ≤ n → Above n xs → Above m xs
above_less m n [] le h = tt
above_less m n (x ∷ xs) le h = (let lt = h.0 in omega arith, above_less m n xs le h.1)

-- on which side of a row another stands, with what each test says
pub data Side (m n : ℕ) : Type 0 where
  below : nat_lt m n ≡ true → nat_le m n ≡ true → nat_le n m ≡ false → (m == n) ≡ false → m < n → Side m n
  here : nat_lt m n ≡ false → nat_le m n ≡ true → nat_le n m ≡ true → (m == n) ≡ true → m ≡ n → Side m n
  over : nat_lt m n ≡ false → nat_le m n ≡ false → nat_le n m ≡ true → (m == n) ≡ false → n < m → Side m n

pub side : (m n : ℕ) → Side m n
side m n = ⊎_elim
    (λ same. here (le-ltb m n (omega arith)) (le-leb m n (omega arith)) (le-leb n m (omega arith)) (eq-eqb m n same) same)
    (⊎_elim
    (λ lt. below (lt-ltb m n lt) (le-leb m n (omega arith)) (lt-leb n m lt) (ne_eqb m n (λ same. omega arith)) lt)
    (λ lt. over (le-ltb m n (omega arith)) (lt-leb m n lt) (le-leb n m (omega arith)) (ne_eqb m n (λ same. omega arith)) lt))
    (cases_order m n)

-- how many stand before the row, and through it
abbrev pub before : ℕ → List Example → ℕ
before n xs = prefix_len (λ x. nat_lt x.row n) xs

abbrev pub through : ℕ → List Example → ℕ
through n xs = prefix_len (λ x. nat_le x.row n) xs

pub none_through : (n : ℕ) (xs : List Example) → Above n xs → through n xs ≡ 0
none_through n [] h = refl
none_through n (x ∷ xs) h = let lt = h.0 in rw (lt-leb x.row n lt) refl

pub none_before : (n : ℕ) (xs : List Example) → Above n xs → before n xs ≡ 0
none_before n [] h = refl
none_before n (x ∷ xs) h = let lt = h.0 in let le : n ≤ x.row = omega arith in rw (le-ltb x.row n le) refl

pub none_here : (n : ℕ) (xs : List Example) → Above n xs → has_example xs n ≡ false
none_here n [] h = refl
none_here n (x ∷ xs) h = let lt = h.0 in let ne : x.row ≡ n → ⊥ = λ same. omega arith in rw (ne_eqb x.row n ne) (none_here n xs h.1)

pub all_kept : (n : ℕ) (xs : List Example) → Above n xs → without_example n xs ≡ xs
all_kept n [] h = refl
all_kept n (x ∷ xs) h =
    let lt = h.0 in let ne : x.row ≡ n → ⊥ = λ same. omega arith in rw (ne_eqb x.row n ne) (ap (λ (ys : List Example). x ∷ ys) (all_kept n xs h.1))

-- one more in a count of the row and later ones
pub one_more : (n : ℕ) (x : Example) (xs : List Example) (b : Bool) → nat_le n x.row ≡ b → count_by (λ x. nat_le n x.row) (x ∷ xs) ≡ cond b 1 0 + count_by (λ x. nat_le n x.row) xs
one_more n x xs b is =
    sum_by-cons (λ (y : Example). cond (nat_le n y.row) 1 0) x xs ∙ ap (λ (b : Bool). cond b 1 0 + count_by (λ (y : Example). nat_le n y.row) xs) is

pub all_counted : (n : ℕ) (xs : List Example) → Above n xs → count_by (λ x. nat_le n x.row) xs ≡ length xs
all_counted n [] h = refl
all_counted n (x ∷ xs) h =
    let lt = h.0 in let le : n ≤ x.row = omega arith in
    one_more n x xs true (le-leb n x.row le) ∙ (let rest = all_counted n xs h.1 in omega arith)

-- what a binary search over the rows asks
pub not_falling : (xs : List Example) → AreExamples xs → IsNonDecreasingBy (λ x. x.row) xs
not_falling xs h i j d le lt = ⊎_elim
    (λ less. let up = h i j d less lt in omega arith)
    (λ most. let same : i ≡ j = omega arith in subst (λ k. (get_or xs i d).row ≤ (get_or xs k d).row) same (omega arith))
    (cases_lt i j)

-- the place that it finds is how many pass the test
pub is_count : (p : Example → Bool) (xs : List Example) (n : ℕ) → n ≤ length xs → IsPartitionPoint (λ y. p y ≡ true) (λ y. p y ≡ false) xs n → n ≡ prefix_len p xs
is_count p xs n le point =
    let none : Example = record { row = 0; text = [] } in
    sym (prefix_len_is p xs n none le (λ k lt. point.0 k none (omega arith) lt) (λ lt. point.1 n none (omega arith) lt))
