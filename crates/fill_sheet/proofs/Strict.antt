-- Distinct numbers in rising order strictly increase.
use Rattle.std.proofs.Common.{◌≡◌, ◌≢◌, ℕ, zero, suc, ◌<◌, ◌≤◌, List, [], ◌∷◌, length, get_or, true, false, eqb, All, AllPairs, sum_by, refl, sym, ◌∙◌, arith, add-one}
use Rattle.std.specs.List.Sorted.{IsStrictlyIncreasing}
use Rattle.std.proofs.lemmas.Bool.{eqb-true}
use Rattle.std.proofs.lemmas.List.Sums.{sum_by-cons}
use Rattle.std.proofs.lemmas.List.Sorted.{sum_by-IsPermutation}
use Rattle.fill_sheet.specs.Columns.{rising}
use Rattle.fill_sheet.proofs.Rising.{Rises, hit, hit-same, no_hit, rising-rises, rising-permutation}

-- a number among distinct ones is hit at most once
hit_once : (xs : List ℕ) → AllPairs (λ a b. a ≢ b) xs → (x : ℕ) → sum_by (hit x) xs ≤ 1
hit_once [] distinct x = let none : sum_by (hit x) [] ≡ 0 = refl in omega (arith, none)
hit_once (a ∷ more) distinct x =
    let tail : AllPairs (λ a b. a ≢ b) more = λ i j d lt in_range. distinct (suc i) (suc j) d (omega arith) (omega arith) in
    let split = sum_by-cons (hit x) a more in
    elim (eqb x a) as (λ b. eqb x a ≡ b → sum_by (hit x) (a ∷ more) ≤ 1) [
      | true ↦ λ is.
          let same : x ≡ a = eqb-true x a is in
          let others : All (λ y. x ≢ y) more = λ k d in_range e. distinct 0 (suc k) d (omega arith) (omega arith) (sym same ∙ e) in
          let none = no_hit x more others in
          let once : hit x a ≡ 1 = rw is refl in
          omega (arith, split, none, once)
      | false ↦ λ is.
          let not_here : hit x a ≡ 0 = rw is refl in
          let later = hit_once more tail x in
          omega (arith, split, not_here, later)
    ] refl

-- numbers that rise, none of them twice
strictly : (xs : List ℕ) → Rises xs → ((x : ℕ) → sum_by (hit x) xs ≤ 1) → (k : ℕ) → suc k < length xs → get_or xs k 0 < get_or xs (suc k) 0
strictly [] up once k lt = absurd (omega arith)
strictly (a ∷ []) up once k lt = absurd (omega arith)
strictly (a ∷ b ∷ more) up once zero lt =
    let le : a ≤ b = up.0 0 0 (omega arith) in
    let differ : a ≢ b = λ same.
    let twice = sum_by-cons (hit a) a (b ∷ more) in
    let second = sum_by-cons (hit a) b more in
    let here = hit-same a in
    let there : hit a b ≡ 1 = rw (← same) here in
    omega (arith, once a, twice, second, here, there) in
    omega arith
strictly (a ∷ b ∷ more) up once (suc k) lt =
    strictly (b ∷ more) up.1 (λ x. omega (arith, once x, sum_by-cons (hit x) a (b ∷ more))) k (omega arith)

-- distinct numbers in rising order
pub rising-strict : (xs : List ℕ) → AllPairs (λ a b. a ≢ b) xs → IsStrictlyIncreasing (rising xs)
rising-strict xs distinct k lt =
    let once : (x : ℕ) → sum_by (hit x) (rising xs) ≤ 1 = λ x. omega (arith, hit_once xs distinct x, sum_by-IsPermutation (hit x) xs (rising xs) (rising-permutation xs)) in
    rw add-one (strictly (rising xs) (rising-rises xs) once k (omega arith))
