-- Empty fields at the end of a record.
use Rattle.std.proofs.Common.{◌≡◌, ◌∙◌, ℕ, ◌+◌, ◌-◌, ◌≤◌, List, [], ◌∷◌, ◌++◌, length, replicate, ap, arith, append_assoc}
use Rattle.std.proofs.lemmas.List.{replicate-append-replicate}

-- one more
pub pad_more : (xs ys : List (List ℕ)) (n : ℕ) → length xs ≤ n → ys ≡ xs ++ replicate (n - length xs) [] → ys ++ [] ∷ [] ≡ xs ++ replicate (n + 1 - length xs) []
pad_more xs ys n le is =
    let count : n - length xs + 1 ≡ n + 1 - length xs = omega arith in
    let empty : List ℕ = [] in
    ap (λ (l : List (List ℕ)). l ++ empty ∷ []) is ∙ append_assoc xs (replicate (n - length xs) empty) (empty ∷ [])
    ∙ ap (λ (l : List (List ℕ)). xs ++ l) (replicate-append-replicate (n - length xs) 1 empty ∙ ap (λ (k : ℕ). replicate k empty) count)
