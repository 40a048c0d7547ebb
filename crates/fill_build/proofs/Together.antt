-- How far two lists go together.
use Rattle.std.proofs.Common.{◌≡◌, ◌≢◌, ℕ, zero, suc, ◌+◌, ◌<◌, ◌≤◌, inl, inr, List, [], ◌∷◌, ◌++◌, length, take, get_or, min, refl, sym, ap, ◌∙◌, arith}
use Rattle.std.proofs.lemmas.Bool.{cases_lt, cases_eq}
use Rattle.std.proofs.lemmas.List.{get_or-take, take-take, take_more}
use Rattle.fill_build.specs.Hits.{BeginAlike, GoTogether}

-- they begin alike with fewer items too
pub alike_less : (xs ys : List ℕ) (m n : ℕ) → m ≤ n → BeginAlike xs ys n → BeginAlike xs ys m
alike_less xs ys m n le h =
    let a = h.0 in
    let b = h.1 in
    (omega arith, omega arith, sym (take-take m n xs le) ∙ (ap (take m) h.2 ∙ take-take m n ys le))

alike_at : (xs ys : List ℕ) (m i d : ℕ) → i < m → BeginAlike xs ys m → get_or xs i d ≡ get_or ys i d
alike_at xs ys m i d lt h = sym (get_or-take m xs i d lt) ∙ (ap (λ l. get_or l i d) h.2 ∙ get_or-take m ys i d lt)

-- they go together up to the first difference, or to the end of one of them
pub up_to_difference : (xs ys : List ℕ) (i d : ℕ) → BeginAlike xs ys i → get_or xs i d ≢ get_or ys i d → GoTogether xs ys i
up_to_difference xs ys i d h differ m = (
  λ k. elim (cases_lt i m) [ inl lt ↦ absurd (differ (alike_at xs ys m i d lt k)) | inr le ↦ le ],
  λ le. alike_less xs ys m i le h,
)

pub up_to_end : (xs ys : List ℕ) (i : ℕ) → BeginAlike xs ys i → min (length xs) (length ys) ≤ i → GoTogether xs ys i
up_to_end xs ys i h end m = (λ k. let a = k.0 in let b = k.1 in omega arith, λ le. alike_less xs ys m i le h)

pub alike_start : (xs ys : List ℕ) → BeginAlike xs ys 0
alike_start xs ys = (omega arith, omega arith, refl)

pub alike_more : (xs ys : List ℕ) (i d : ℕ) → i < length xs → i < length ys → BeginAlike xs ys i → get_or xs i d ≡ get_or ys i d → BeginAlike xs ys (i + 1)
alike_more xs ys i d lx ly h e =
    let first = take_more xs i d lx in
    let second = take_more ys i d ly in
    (omega arith, omega arith, first ∙ (ap (λ l. l ++ get_or xs i d ∷ []) h.2 ∙ (ap (λ x. take i ys ++ x ∷ []) e ∙ sym second)))

-- there is one such number, and only one
pub together_once : (xs ys : List ℕ) (m n : ℕ) → GoTogether xs ys m → GoTogether xs ys n → m ≡ n
together_once xs ys m n f g =
    let a = (g m).0 ((f m).1 (omega arith)) in
    let b = (f n).0 ((g n).1 (omega arith)) in
    omega arith

module _ (xs ys : List ℕ) where
  from_here : (fuel i : ℕ) → min (length xs) (length ys) ≤ fuel + i → BeginAlike xs ys i → (n : ℕ) × GoTogether xs ys n
  from_here zero i le h = (i, up_to_end xs ys i h (omega arith))
  from_here (suc fuel) i le h = elim (cases_lt i (min (length xs) (length ys))) [
    | inl lt ↦ elim (cases_eq (get_or xs i 0) (get_or ys i 0)) [
      | inl same ↦ from_here fuel (i + 1) (omega arith) (alike_more xs ys i 0 (omega arith) (omega arith) h same)
      | inr differ ↦ (i, up_to_difference xs ys i 0 h differ)
    ]
    | inr end ↦ (i, up_to_end xs ys i h end)
  ]

  pub together_there : (n : ℕ) × GoTogether xs ys n
  together_there = from_here (length xs) 0 (omega arith) (alike_start xs ys)
