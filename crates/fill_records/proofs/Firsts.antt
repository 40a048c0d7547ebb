-- The first items of a list.
use Rattle.std.proofs.Common.{◌≡◌, ℕ, ◌≤◌, min, List, length, take, true, false, leb, refl, arith}
use Rattle.std.proofs.lemmas.Bool.{leb-true, leb-false}
use Rattle.std.proofs.lemmas.List.{take_all}

-- by how many there are
pub take-min : {A : Type 0} (xs : List A) (most : ℕ) → take (min (length xs) most) xs ≡ take most xs
take-min xs most = elim (leb most (length xs)) as (λ b. leb most (length xs) ≡ b → take (min (length xs) most) xs ≡ take most xs) [
  | true ↦ λ is.
      let le = leb-true most (length xs) is in
      let all : min (length xs) most ≡ most = omega arith in
      rw all refl
  | false ↦ λ is.
      let lt = leb-false most (length xs) is in
      let le : length xs ≤ most = omega arith in
      let same : length xs ≤ min (length xs) most = omega arith in
      rw (take_all (min (length xs) most) xs same, take_all most xs le) refl
] refl
