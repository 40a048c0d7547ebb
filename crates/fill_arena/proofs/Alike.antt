-- Two lists that are compared item by item.
use Rattle.std.proofs.Common.{◌≡◌, ◌≢◌, ℕ, zero, suc, ◌+◌, ◌<◌, ◌≤◌, inl, inr, List, [], ◌∷◌, length, Some, slice_get, refl, sym, ap, ◌∙◌, subst, arith}
use Rattle.std.proofs.lemmas.Bool.{cases_lt}

-- the same at each place before one
pub record SameBelow {A : Type 0} (xs ys : List A) (i : ℕ) : Type 0 where
  pub all : (k : ℕ) → k < i → slice_get xs k ≡ slice_get ys k

pub same_start : {A : Type 0} (xs ys : List A) → SameBelow xs ys 0
same_start xs ys = record { all = λ k lt. absurd (omega arith) }

pub same_more : {A : Type 0} (xs ys : List A) (i : ℕ) (x y : A) → slice_get xs i ≡ Some x → slice_get ys i ≡ Some y → x ≡ y → SameBelow xs ys i → SameBelow xs ys (i + 1)
same_more xs ys i x y first second same before = record {
  all = λ k lt. elim (cases_lt k i) [
    | inl less ↦ before.all k less
    | inr past ↦
        let at : k ≡ i = omega arith in
        let both : slice_get xs i ≡ slice_get ys i = first ∙ ap Some same ∙ sym second in
        subst (λ j. slice_get xs j ≡ slice_get ys j) (sym at) both
  ];
}

pub same_end : {A : Type 0} (xs ys : List A) (i : ℕ) → length xs ≡ length ys → length xs ≤ i → SameBelow xs ys i → xs ≡ ys
same_end [] [] i long past before = refl
same_end [] (y ∷ ys) i long past before = absurd (omega arith)
same_end (x ∷ xs) [] i long past before = absurd (omega arith)
same_end (x ∷ xs) (y ∷ ys) zero long past before = absurd (omega arith)
same_end (x ∷ xs) (y ∷ ys) (suc i) long past before =
    let first : x ≡ y = (let h = before.all 0 (omega arith) in cc) in
    let rest : xs ≡ ys = same_end xs ys i (omega arith) (omega arith) (record { all = λ k lt. before.all (suc k) (omega arith) }) in
    cc

pub same_not : {A : Type 0} (xs ys : List A) (i : ℕ) (x y : A) → slice_get xs i ≡ Some x → slice_get ys i ≡ Some y → x ≢ y → xs ≢ ys
same_not xs ys i x y first second other same =
    let both : slice_get xs i ≡ slice_get ys i = ap (λ l. slice_get l i) same in
    other (let e : Some x ≡ Some y = sym first ∙ both ∙ second in cc)
