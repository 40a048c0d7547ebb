-- Items that stand for sets, and what one of the first of them has.
use Rattle.std.proofs.Common.{◌≡◌, ◌⊎◌, ℕ, ◌+◌, ◌≤◌, List, length, Some, inl, inr, sym, subst, slice_get, arith}
use Rattle.std.proofs.lemmas.Bool.{cases_lt}
use Rattle.std.proofs.lemmas.Option.{slice_get_within}
use Rattle.fill_arena.specs.Contents.{SomeBelow, SomeIn}

pub same_item : {A : Type 0} (xs : List A) (i k : ℕ) (x y : A) → slice_get xs i ≡ Some x → slice_get xs k ≡ Some y → k ≡ i → x ≡ y
same_item {A} xs i k x y at there e = let moved : slice_get xs i ≡ Some y = subst (λ j. slice_get xs j ≡ Some y) e there in cc

module _ {X A : Type 0} (F : X → A → Type 0) (xs : List X) where
  pub none_below : (a : A) → ¬ (SomeBelow 0 xs (λ x. F x a))
  none_below a h = absurd (omega (arith, h.2))

  pub below_split : (i : ℕ) (x : X) → slice_get xs i ≡ Some x → (a : A) → SomeBelow (i + 1) xs (λ y. F y a) → SomeBelow i xs (λ y. F y a) ⊎ F x a
  below_split i x at a h = elim (cases_lt h.0 i) [
    | inl less ↦ inl (h.0, h.1, less, h.3, h.4)
    | inr past ↦ let lt = h.2 in inr (subst (λ y. F y a) (sym (same_item xs i h.0 x h.1 at h.3 (omega arith))) h.4)
  ]

  pub below_left : (i : ℕ) (a : A) → SomeBelow i xs (λ y. F y a) → SomeBelow (i + 1) xs (λ y. F y a)
  below_left i a h = let lt = h.2 in (h.0, h.1, omega arith, h.3, h.4)

  pub below_here : (i : ℕ) (x : X) → slice_get xs i ≡ Some x → (a : A) → F x a → SomeBelow (i + 1) xs (λ y. F y a)
  below_here i x at a h = (i, x, omega arith, at, h)

  pub some_below : (i : ℕ) → length xs ≤ i → (a : A) → SomeIn (λ y. F y a) xs → SomeBelow i xs (λ y. F y a)
  some_below i past a h = let within = slice_get_within xs h.1.0 h.0 h.1.1 in (h.1.0, h.0, omega arith, h.1.1, h.2)

  pub some_in : (i : ℕ) (a : A) → SomeBelow i xs (λ y. F y a) → SomeIn (λ y. F y a) xs
  some_in i a h = (h.1, (h.0, h.3), h.4)
