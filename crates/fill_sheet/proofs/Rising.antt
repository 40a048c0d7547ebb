-- A sort of numbers gives them in rising order.
use Rattle.std.proofs.Common.{◌≡◌, ◌≢◌, ℕ, suc, ◌<◌, ◌≤◌, List, [], ◌∷◌, get_or, true, false, if◌then◌else◌, eqb, leb, All, sum_by, IsPermutation, IsSorted, refl, sym, ◌∙◌, ◌⊎◌, inl, inr, arith}
use Rattle.std.specs.Ordering.{nat_cmp}
use Rattle.std.specs.List.Sorted.{IsNonDecreasing}
use Rattle.std.proofs.lemmas.Bool.{leb-true, leb-false}
use Rattle.std.proofs.lemmas.Bool.Decides.{nat_tests}
use Rattle.std.proofs.lemmas.List.Elements.{All-cons, All-tail, All-nil}
use Rattle.std.proofs.lemmas.List.Sums.{sum_by-cons}
use Rattle.std.proofs.lemmas.List.Sorted.{IsPermutation-refl, IsPermutation-cons, IsPermutation-trans, IsPermutation-middle, All-permutation, sum_by-IsPermutation, IsNonDecreasingBy-from_sort}
use Rattle.fill_sheet.specs.Columns.{placed, rising}

-- each number is at most all later ones
abbrev pub Rises : List ℕ → Type 0
Rises [] = Unit {0}
Rises (n ∷ more) = All (λ m. n ≤ m) more × Rises more

-- one if the number is x
abbrev pub hit : ℕ → ℕ → ℕ
hit x y = if eqb x y then 1 else 0

pub placed-permutation : (n : ℕ) (xs : List ℕ) → IsPermutation (n ∷ xs) (placed n xs)
placed-permutation n [] = IsPermutation-refl (n ∷ [])
placed-permutation n (m ∷ more) =
    elim (leb n m) as (λ b. IsPermutation (n ∷ m ∷ more) (if b then n ∷ m ∷ more else m ∷ placed n more)) [
      | true ↦ IsPermutation-refl (n ∷ m ∷ more)
      | false ↦ IsPermutation-trans (n ∷ m ∷ more) (m ∷ n ∷ more) (m ∷ placed n more) (IsPermutation-middle (n ∷ []) m more) (IsPermutation-cons m (n ∷ more) (placed n more) (placed-permutation n more))
    ]

pub rising-permutation : (xs : List ℕ) → IsPermutation xs (rising xs)
rising-permutation [] = IsPermutation-refl []
rising-permutation (n ∷ more) =
    IsPermutation-trans (n ∷ more) (n ∷ rising more) (placed n (rising more)) (IsPermutation-cons n more (rising more) (rising-permutation more)) (placed-permutation n (rising more))

All-placed : (P : ℕ → Type 0) (n : ℕ) (xs : List ℕ) → P n → All P xs → All P (placed n xs)
All-placed P n xs first all = All-permutation P (n ∷ xs) (placed n xs) (placed-permutation n xs) (All-cons P n xs first all)

placed-rises : (n : ℕ) (xs : List ℕ) → Rises xs → Rises (placed n xs)
placed-rises n [] up = (All-nil (λ m. n ≤ m), tt)
placed-rises n (m ∷ more) up =
    elim (leb n m) as (λ b. leb n m ≡ b → Rises (if b then n ∷ m ∷ more else m ∷ placed n more)) [
      | true ↦ λ is.
          let le : n ≤ m = leb-true n m is in
          (All-cons (λ k. n ≤ k) m more le (λ k d lt. let above : m ≤ get_or more k d = up.0 k d lt in omega arith), up)
      | false ↦ λ is.
          let lt : m < n = leb-false n m is in
          (All-placed (λ k. m ≤ k) n more (omega arith) up.0, placed-rises n more up.1)
    ] refl

pub rising-rises : (xs : List ℕ) → Rises (rising xs)
rising-rises [] = tt
rising-rises (n ∷ more) = placed-rises n (rising more) (rising-rises more)

pub hit-same : (x : ℕ) → hit x x ≡ 1
hit-same x = let same : eqb x x ≡ true = grind (arith, nat_tests) in rw same refl

hit-other : (x y : ℕ) → x ≢ y → hit x y ≡ 0
hit-other x y other = let no : eqb x y ≡ false = grind (arith, nat_tests) in rw no refl

-- a number that differs from each is not hit
pub no_hit : (x : ℕ) (ys : List ℕ) → All (λ y. x ≢ y) ys → sum_by (hit x) ys ≡ 0
no_hit x [] all = refl
no_hit x (y ∷ ys) all =
    let here = hit-other x y (all 0 0 (omega arith)) in
    let later = no_hit x ys (All-tail (λ y. x ≢ y) y ys all) in
    sum_by-cons (hit x) y ys ∙ omega (arith, here, later)

one_hit : (x : ℕ) (xs : List ℕ) → 1 ≤ sum_by (hit x) (x ∷ xs)
one_hit x xs = omega (arith, sum_by-cons (hit x) x xs, hit-same x)

less_differs : (x y : ℕ) (ys : List ℕ) → x < y → All (λ m. y ≤ m) ys → All (λ m. x ≢ m) (y ∷ ys)
less_differs x y ys lt all = All-cons (λ m. x ≢ m) y ys (omega arith) (λ k d in_range. let above : y ≤ get_or ys k d = all k d in_range in omega arith)

tail_hits : (n : ℕ) (xs ys : List ℕ) → ((x : ℕ) → sum_by (hit x) (n ∷ xs) ≡ sum_by (hit x) (n ∷ ys)) → (x : ℕ) → sum_by (hit x) xs ≡ sum_by (hit x) ys
tail_hits n xs ys alike x = omega (arith, alike x, sum_by-cons (hit x) n xs, sum_by-cons (hit x) n ys)

three_ways : (x y : ℕ) → (x ≡ y) ⊎ ((x < y) ⊎ (y < x))
three_ways x y = elim (leb x y) as (λ b. leb x y ≡ b → (x ≡ y) ⊎ ((x < y) ⊎ (y < x))) [
  | true ↦ λ le. elim (leb y x) as (λ b. leb y x ≡ b → (x ≡ y) ⊎ ((x < y) ⊎ (y < x))) [
    | true ↦ λ ge. inl (omega (arith, leb-true x y le, leb-true y x ge))
    | false ↦ λ lt. inr (inl (leb-false y x lt))
  ] refl
  | false ↦ λ lt. inr (inr (leb-false x y lt))
] refl

-- two rising lists with the same numbers are the same
same_from_hits : (xs ys : List ℕ) → Rises xs → Rises ys → ((x : ℕ) → sum_by (hit x) xs ≡ sum_by (hit x) ys) → xs ≡ ys
same_from_hits [] [] up up2 alike = refl
same_from_hits [] (y ∷ ys) up up2 alike = absurd (let none : sum_by (hit y) [] ≡ 0 = refl in omega (arith, alike y, one_hit y ys, none))
same_from_hits (x ∷ xs) [] up up2 alike = absurd (let none : sum_by (hit x) [] ≡ 0 = refl in omega (arith, alike x, one_hit x xs, none))
same_from_hits (x ∷ xs) (y ∷ ys) up up2 alike = elim (three_ways x y) [
  | inl same ↦
      let alike2 : (n : ℕ) → sum_by (hit n) (x ∷ xs) ≡ sum_by (hit n) (x ∷ ys) = rw (← same) at alike in
      rw (same, same_from_hits xs ys up.1 up2.1 (tail_hits x xs ys alike2)) refl
  | inr (inl lt) ↦ absurd (omega (arith, alike x, one_hit x xs, no_hit x (y ∷ ys) (less_differs x y ys lt up2.0)))
  | inr (inr lt) ↦ absurd (omega (arith, alike y, one_hit y ys, no_hit y (x ∷ xs) (less_differs y x xs lt up.0)))
]

rises : (xs : List ℕ) → IsNonDecreasing xs → Rises xs
rises [] up = tt
rises (x ∷ xs) up = ((λ k d lt. let le : x ≤ get_or xs k d = up 0 (suc k) d (omega arith) (omega arith) in le), rises xs (λ i j d le lt. up (suc i) (suc j) d (omega arith) (omega arith)))

-- what a sort gives is the list in rising order
pub sorted-rising : (xs ys : List ℕ) → IsPermutation xs ys → IsSorted nat_cmp ys → ys ≡ rising xs
sorted-rising xs ys moved sorted =
    same_from_hits ys (rising xs) (rises ys (IsNonDecreasingBy-from_sort (λ x. x) ys sorted)) (rising-rises xs)
    (λ x. sum_by-IsPermutation (hit x) xs ys moved ∙ sym (sum_by-IsPermutation (hit x) xs (rising xs) (rising-permutation xs)))
