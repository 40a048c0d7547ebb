-- Looking for an item of a property, one after the other.
use Rattle.std.proofs.Common.{◌≡◌, ℕ, ◌+◌, ◌<◌, ◌≤◌, List, length, get_or, Some, slice_get, inl, inr, refl, subst, arith}
use Rattle.std.proofs.lemmas.Bool.{cases_lt}
use Rattle.std.proofs.lemmas.Option.{slice_get_read, slice_get_within}
use Rattle.fill_arena.specs.Contents.{EachIn, SomeIn}

-- no item before a place has the property
pub record NoneBelow {A : Type 0} (P : A → Type 0) (xs : List A) (i : ℕ) : Type 0 where
  pub all : (k : ℕ) (x : A) → k < i → slice_get xs k ≡ Some x → ¬ (P x)

-- each item before a place has it
pub record AllBelow {A : Type 0} (P : A → Type 0) (xs : List A) (i : ℕ) : Type 0 where
  pub all : (k : ℕ) (x : A) → k < i → slice_get xs k ≡ Some x → P x

pub here : {A : Type 0} (xs : List A) (i : ℕ) (x : A) → i < length xs → x ≡ get_or xs i x → slice_get xs i ≡ Some x
here xs i x lt is = slice_get_read xs (length xs) i x refl lt is

pub scan_start : {A : Type 0} (P : A → Type 0) (xs : List A) → NoneBelow P xs 0
scan_start P xs = record { all = λ k x lt e h. absurd (omega arith) }

pub scan_more : {A : Type 0} (P : A → Type 0) (xs : List A) (i : ℕ) (x : A) → slice_get xs i ≡ Some x → NoneBelow P xs i → ¬ (P x) → NoneBelow P xs (i + 1)
scan_more {A} P xs i x at none fails = record {
  all = λ k y lt e h. elim (cases_lt k i) [
    | inl less ↦ none.all k y less e h
    | inr past ↦
        let same : k ≡ i = omega arith in
        let there : slice_get xs i ≡ Some y = subst (λ j. slice_get xs j ≡ Some y) same e in
        let one : y ≡ x = cc in
        fails (subst P one h)
  ];
}

pub scan_end : {A : Type 0} (P : A → Type 0) (xs : List A) (i : ℕ) → length xs ≤ i → NoneBelow P xs i → ¬ (SomeIn P xs)
scan_end P xs i past none h =
    let within = slice_get_within xs h.1.0 h.0 h.1.1 in
    none.all h.1.0 h.0 (omega arith) h.1.1 h.2

pub scan_found : {A : Type 0} (P : A → Type 0) (xs : List A) (i : ℕ) (x : A) → slice_get xs i ≡ Some x → P x → SomeIn P xs
scan_found P xs i x at has = (x, (i, at), has)

pub all_more : {A : Type 0} (P : A → Type 0) (xs : List A) (i : ℕ) (x : A) → slice_get xs i ≡ Some x → AllBelow P xs i → P x → AllBelow P xs (i + 1)
all_more {A} P xs i x at each has = record {
  all = λ k y lt e. elim (cases_lt k i) [
    | inl less ↦ each.all k y less e
    | inr past ↦
        let same : k ≡ i = omega arith in
        let there : slice_get xs i ≡ Some y = subst (λ j. slice_get xs j ≡ Some y) same e in
        let one : x ≡ y = cc in
        subst P one has
  ];
}

pub all_end : {A : Type 0} (P : A → Type 0) (xs : List A) (i : ℕ) → length xs ≤ i → AllBelow P xs i → EachIn P xs
all_end P xs i past each k x at = let within = slice_get_within xs k x at in each.all k x (omega arith) at
