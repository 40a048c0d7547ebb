-- Lists that grow, and numbers that stand in them.
use Rattle.std.proofs.Common.{◌≡◌, ℕ, zero, suc, ◌≤◌, ◌⊎◌, inl, inr, List, [], ◌∷◌, ◌++◌, length, Some, slice_get, refl, ap, ◌∙◌, arith}
use Rattle.std.proofs.lemmas.Bool.{cases_eq}
use Rattle.std.proofs.lemmas.Option.{slice_get_within}
use Rattle.fill_arena.specs.Contents.{SomeIn}
use Rattle.fill_arena.proofs.Lists.{get_left, get_last}
use Rattle.fill_meet.specs.Runs.{Grows, HasFrom, HasIn}
use Rattle.fill_meet.specs.declared.runs.Run.{Run}
use Rattle.fill_meet.proofs.Lists.{length_pushed}

pub grows_same : {A : Type 0} (xs : List A) → Grows xs xs
grows_same xs = record { extends = λ k x h. h; long = omega arith }

pub grows_on : {A : Type 0} (xs ys zs : List A) → Grows xs ys → Grows ys zs → Grows xs zs
grows_on xs ys zs f g = record { extends = λ k x h. g.extends k x (f.extends k x h); long = (let a = f.long in let b = g.long in omega arith) }

pub grows_pushed : {A : Type 0} (xs : List A) (x : A) → Grows xs (xs ++ x ∷ [])
grows_pushed xs x =
    record {
      extends = λ k y h. get_left xs (x ∷ []) k (slice_get_within xs k y h) ∙ h;
      long = (let n = length_pushed xs (xs ++ x ∷ []) x (length xs) refl refl in omega arith);
    }

pub from_grown : (xs ys : List ℕ) (start n : ℕ) → Grows xs ys → HasFrom xs start n → HasFrom ys start n
from_grown xs ys start n g h = record { place = h.place; past = h.past; here = g.extends h.place n h.here }

pub from_pushed : (xs : List ℕ) (start n : ℕ) → start ≤ length xs → HasFrom (xs ++ n ∷ []) start n
from_pushed xs start n le = record { place = length xs; past = le; here = get_last xs n }

pub in_grown : (xs ys : List ℕ) (run : Run) (n : ℕ) → Grows xs ys → HasIn xs run n → HasIn ys run n
in_grown xs ys run n g h = record { place = h.place; past = h.past; before = h.before; here = g.extends h.place n h.here }

-- a number from the start on is in the run up to the end
pub in_run : (xs : List ℕ) (run : Run) (start n : ℕ) → run.start ≡ start → run.end ≡ length xs → HasFrom xs start n → HasIn xs run n
in_run xs run start n s e h =
    let past = h.past in
    let within = slice_get_within xs h.place n h.here in
    record { place = h.place; past = omega arith; before = omega arith; here = h.here }

first_other : (m : ℕ) (rest : List ℕ) (n : ℕ) → (m ≡ n → ⊥) → (HasFrom rest 0 n → ⊥) → (k : ℕ) → slice_get (m ∷ rest) k ≡ Some n → ⊥
first_other m rest n other none zero h = other cc
first_other m rest n other none (suc k) h = none (record { place = k; past = omega arith; here = h })

later : (m : ℕ) (rest : List ℕ) (start n : ℕ) → (HasFrom rest start n → ⊥) → (k : ℕ) → suc start ≤ k → slice_get (m ∷ rest) k ≡ Some n → ⊥
later m rest start n none zero le h = omega arith
later m rest start n none (suc k) le h = none (record { place = k; past = omega arith; here = h })

-- whether a number stands in a list from a place on
pub has_or_not : (numbers : List ℕ) (start n : ℕ) → HasFrom numbers start n ⊎ (HasFrom numbers start n → ⊥)
has_or_not [] start n = inr (λ h. (let e = h.here in cc))
has_or_not (m ∷ rest) zero n = elim (cases_eq m n) [
  | inl same ↦ inl (record { place = 0; past = omega arith; here = ap (λ v. Some v) same })
  | inr other ↦ elim (has_or_not rest 0 n) [
    | inl h ↦ inl (record { place = suc h.place; past = omega arith; here = h.here })
    | inr none ↦ inr (λ h. first_other m rest n other none h.place h.here)
  ]
]
has_or_not (m ∷ rest) (suc start) n = elim (has_or_not rest start n) [
  | inl h ↦ (let past = h.past in inl (record { place = suc h.place; past = omega arith; here = h.here }))
  | inr none ↦ inr (λ h. later m rest start n none h.place h.past h.here)
]

pub some_grown : {A : Type 0} (P : A → Type 0) (xs ys : List A) → Grows xs ys → SomeIn P xs → SomeIn P ys
some_grown P xs ys g h = (h.0, (h.1.0, g.extends h.1.0 h.0 h.1.1), h.2)
