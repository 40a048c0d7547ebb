-- The bounds of the blocks, and which block a position lies in.
use Rattle.std.proofs.Common.{◌≡◌, ℕ, zero, suc, ◌+◌, ◌<◌, ◌≤◌, inl, inr, List, length, get_or, slice_get, slice_index, Some, ap, subst, arith}
use Rattle.std.proofs.lemmas.Bool.{cases_order, cases_lt}
use Rattle.std.proofs.lemmas.Option.{slice_get-get_or, get_or_from_slice_get}
use Rattle.fill_shapes.specs.Stretched.{IsBlock, IsStretched}

module _ (w t bounds : List ℕ) (s : IsStretched w t bounds) where
  abbrev pub bound : ℕ → ℕ
  bound i = get_or bounds i 0

  pub bound_of : (i : ℕ) → i ≤ length w → slice_get bounds i ≡ Some (bound i)
  bound_of i h = slice_get-get_or bounds i 0 (let l = s.long in omega arith)

  pub mono : (i j : ℕ) → i < j → j ≤ length w → bound i < bound j
  mono i j l h = s.rising i j 0 l (let e = s.long in omega arith)

  pub mono_le : (i j : ℕ) → i ≤ j → j ≤ length w → bound i ≤ bound j
  mono_le i j l h = elim (cases_order i j) [
    | inl e ↦ let f : bound i ≡ bound j = ap bound e in omega arith
    | inr o ↦ elim o [ inl lt ↦ let m = mono i j lt h in omega arith | inr gt ↦ absurd (omega arith) ]
  ]

  pub lt_from : (i j : ℕ) → i ≤ length w → bound i < bound j → i < j
  lt_from i j h l = elim (cases_lt i j) [ inl lt ↦ lt | inr le ↦ absurd (let m = mono_le j i le h in omega arith) ]

  pub le_from : (i j : ℕ) → i ≤ length w → bound i ≤ bound j → i ≤ j
  le_from i j h l = elim (cases_lt j i) [ inl lt ↦ absurd (let m = mono j i lt h in omega arith) | inr le ↦ le ]

  pub same_bound : (i j : ℕ) → i ≤ length w → j ≤ length w → bound i ≡ bound j → i ≡ j
  same_bound i j h g e =
      let l = le_from i j h (omega arith) in
      let m = le_from j i g (omega arith) in
      omega arith

  pub first : bound 0 ≡ 0
  first = get_or_from_slice_get bounds 0 0 0 s.first

  pub last : bound (length w) ≡ length t
  last = get_or_from_slice_get bounds (length w) (length t) 0 s.last

  pub bound_within : (i : ℕ) → i ≤ length w → bound i ≤ length t
  bound_within i h =
      let m = mono_le i (length w) h (omega arith) in
      let e = last in
      omega arith

  pub block : (i : ℕ) → i < length w → IsBlock (slice_index w i) t (bound i) (bound (i + 1))
  block i h = s.each i (bound i) (bound (i + 1)) (bound_of i (omega arith)) (bound_of (i + 1) (omega arith))

  -- a position before a bound lies in a block before it
  pub lies : (n k : ℕ) → n ≤ length w → k < bound n → (i : ℕ) × (i < n) × (bound i ≤ k) × (k < bound (i + 1))
  lies zero k h l = absurd (let e = first in omega arith)
  lies (suc n) k h l = elim (cases_lt k (bound n)) [
    | inl lt ↦ let r = lies n k (omega arith) lt in (r.0, (let u = r.1 in omega arith), r.2, r.3)
    | inr le ↦ let e : suc n ≡ n + 1 = omega arith in (n, omega arith, le, subst (λ m. k < bound m) e l)
  ]

  -- a position of the text lies in a block
  pub lies_in : (k : ℕ) → k < length t → (i : ℕ) × (i < length w) × (bound i ≤ k) × (k < bound (i + 1))
  lies_in k h = lies (length w) k (omega arith) (let e = last in omega arith)
