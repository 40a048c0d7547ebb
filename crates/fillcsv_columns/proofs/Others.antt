-- The first columns but one.
use Rattle.std.proofs.Common.{◌≡◌, ◌≢◌, ◌∙◌, ℕ, suc, ◌+◌, ◌-◌, ◌==◌, ◌≤◌, ◌<◌, List, [], ◌∷◌, ◌++◌, length, take, filter, not, Bool, true, false, sym, ap, arith, refl, subst, append_assoc, append-nil}
use Rattle.std.specs.List.{range_with_len}
use Rattle.std.proofs.lemmas.List.{take_all, take-append-le}

module _ (to : ℕ) where
  abbrev other : ℕ → Bool
  other n = not (n == to)

  -- the columns from one to the last
  abbrev left : ℕ → ℕ → List ℕ
  left a last = filter other (range_with_len a (last + 1 - a))

  left_is : (a last : ℕ) → a ≤ last → left a last ≡ filter other (a ∷ range_with_len (a + 1) (last + 1 - (a + 1)))
  left_is a last le =
      let count : last + 1 - a ≡ suc (last + 1 - (a + 1)) = omega arith in
      ap (λ (k : ℕ). filter other (range_with_len a k)) count

  keeps : (a : ℕ) (xs : List ℕ) → other a ≡ true → filter other (a ∷ xs) ≡ a ∷ filter other xs
  keeps a xs is = rw is refl

  skips : (a : ℕ) (xs : List ℕ) → other a ≡ false → filter other (a ∷ xs) ≡ filter other xs
  skips a xs is = rw is refl

  -- the column that is filled is passed over
  pub rest_skips : (from : List ℕ) (a last : ℕ) (whole : List ℕ) → a ≤ last → a ≡ to
      → take 8 (from ++ left a last) ≡ whole → take 8 (from ++ left (a + 1) last) ≡ whole
  rest_skips from a last whole le same is =
      let test : other a ≡ false = grind arith in
      let next : left a last ≡ left (a + 1) last = left_is a last le ∙ skips a (range_with_len (a + 1) (last + 1 - (a + 1))) test in
      subst (λ (l : List ℕ). take 8 (from ++ l) ≡ whole) next is

  -- each other one is put at the end
  pub rest_more : (from now : List ℕ) (a last : ℕ) (whole : List ℕ) → a ≤ last → a ≢ to → now ≡ from ++ a ∷ []
      → take 8 (from ++ left a last) ≡ whole → take 8 (now ++ left (a + 1) last) ≡ whole
  rest_more from now a last whole le differs put is =
      let test : other a ≡ true = grind arith in
      let next : left a last ≡ a ∷ left (a + 1) last = left_is a last le ∙ keeps a (range_with_len (a + 1) (last + 1 - (a + 1))) test in
      let same : now ++ left (a + 1) last ≡ from ++ left a last =
      ap (λ (l : List ℕ). l ++ left (a + 1) last) put ∙ append_assoc from (a ∷ []) (left (a + 1) last) ∙ ap (λ (l : List ℕ). from ++ l) (sym next) in
      ap (λ (l : List ℕ). take 8 l) same ∙ is

  -- no column is left
  pub rest_none : (from : List ℕ) (a last : ℕ) (whole : List ℕ) → last < a → length from ≤ 8
      → take 8 (from ++ left a last) ≡ whole → from ≡ whole
  rest_none from a last whole above few is =
      let count : last + 1 - a ≡ 0 = omega arith in
      let none : left a last ≡ [] = ap (λ (k : ℕ). filter other (range_with_len a k)) count in
      let all : take 8 (from ++ left a last) ≡ from = ap (λ (l : List ℕ). take 8 (from ++ l)) none ∙ ap (λ (l : List ℕ). take 8 l) (append-nil from) ∙ take_all 8 from few in
      sym all ∙ is

  -- eight are enough
  pub rest_full : (from : List ℕ) (a last : ℕ) (whole : List ℕ) → length from ≡ 8
      → take 8 (from ++ left a last) ≡ whole → from ≡ whole
  rest_full from a last whole full is =
      let all : take 8 (from ++ left a last) ≡ from = take-append-le 8 from (left a last) (omega arith) ∙ take_all 8 from (omega arith) in
      sym all ∙ is
