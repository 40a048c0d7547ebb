-- What each of the first items of a list has, one item after the other.
use Rattle.std.proofs.Common.{◌≡◌, ℕ, ◌+◌, ◌<◌, ◌≤◌, List, length, Some, slice_get, inl, inr, subst, arith}
use Rattle.std.proofs.lemmas.Option.{slice_get_within}
use Rattle.std.proofs.lemmas.Bool.{cases_lt}
use Rattle.fill_arena.specs.Contents.{EachIn}

pub record EachBelow {A : Type 0} (P : A → Type 0) (xs : List A) (i : ℕ) : Type 0 where
  pub all : (k : ℕ) (x : A) → k < i → slice_get xs k ≡ Some x → P x

pub below_start : {A : Type 0} (P : A → Type 0) (xs : List A) → EachBelow P xs 0
below_start P xs = record { all = λ k x lt at. absurd (omega arith) }

-- one more item, where what the others have is left or weakened
pub below_more : {A : Type 0} (P Q : A → Type 0) (xs : List A) (i : ℕ) (x : A) → slice_get xs i ≡ Some x → ((y : A) → P y → Q y) → EachBelow P xs i → Q x → EachBelow Q xs (i + 1)
below_more {A} P Q xs i x at weaker old new = record {
  all = λ k y lt there. elim (cases_lt k i) [
    | inl less ↦ weaker y (old.all k y less there)
    | inr past ↦
        let same : k ≡ i = omega arith in
        let moved : slice_get xs i ≡ Some y = subst (λ j. slice_get xs j ≡ Some y) same there in
        let one : x ≡ y = cc in
        subst Q one new
  ];
}

pub below_end : {A : Type 0} (P : A → Type 0) (xs : List A) (i : ℕ) → length xs ≤ i → EachBelow P xs i → EachIn P xs
below_end P xs i past all k x at = let within = slice_get_within xs k x at in all.all k x (omega arith) at
