-- Marked nodes, numbered in order.
use Rattle.std.proofs.Common.{◌≡◌, ℕ, zero, suc, ◌+◌, ◌*◌, ◌<◌, ◌≤◌, inl, inr, Bool, true, false, List, [], ◌∷◌, ◌++◌, length, get_or, set, Some, slice_get, refl, sym, ap, ◌∙◌, arith, length-set}
use Rattle.std.proofs.lemmas.Bool.{cases_lt}
use Rattle.std.proofs.lemmas.List.{get_or-set_same}
use Rattle.std.proofs.lemmas.Option.{slice_get-get_or, get_or_from_slice_get}
use Rattle.fill_arena.proofs.Lists.{get_left, get_last}
use Rattle.fill_trim.specs.Marks.{IsMarked, rank}

pub rank_true : (bs : List Bool) (n : ℕ) → IsMarked bs n → rank bs (suc n) ≡ suc (rank bs n)
rank_true [] n h = absurd cc
rank_true (true ∷ []) zero h = refl
rank_true (true ∷ (b ∷ bs)) zero h = refl
rank_true (false ∷ bs) zero h = absurd cc
rank_true (true ∷ bs) (suc n) h = ap suc (rank_true bs n h)
rank_true (false ∷ bs) (suc n) h = rank_true bs n h

pub rank_false : (bs : List Bool) (n : ℕ) → slice_get bs n ≡ Some false → rank bs (suc n) ≡ rank bs n
rank_false [] n h = absurd cc
rank_false (true ∷ bs) zero h = absurd cc
rank_false (false ∷ []) zero h = refl
rank_false (false ∷ (b ∷ bs)) zero h = refl
rank_false (true ∷ bs) (suc n) h = ap suc (rank_false bs n h)
rank_false (false ∷ bs) (suc n) h = rank_false bs n h

pub rank_zero : (bs : List Bool) → rank bs 0 ≡ 0
rank_zero [] = refl
rank_zero (b ∷ bs) = refl

pub rank_few : (bs : List Bool) (n : ℕ) → rank bs n ≤ n
rank_few [] n = omega arith
rank_few (b ∷ bs) zero = omega arith
rank_few (true ∷ bs) (suc n) = let r = rank_few bs n in omega arith
rank_few (false ∷ bs) (suc n) = let r = rank_few bs n in omega arith

pub rank_rises : (bs : List Bool) (n m : ℕ) → n < m → IsMarked bs n → rank bs n < rank bs m
rank_rises [] n m h k = absurd cc
rank_rises (b ∷ bs) n zero h k = absurd (omega arith)
rank_rises (true ∷ bs) zero (suc m) h k = omega arith
rank_rises (false ∷ bs) zero (suc m) h k = absurd cc
rank_rises (true ∷ bs) (suc n) (suc m) h k = let r = rank_rises bs n m (omega arith) k in omega arith
rank_rises (false ∷ bs) (suc n) (suc m) h k = rank_rises bs n m (omega arith) k

pub rank_same : (bs : List Bool) (n m : ℕ) → IsMarked bs n → IsMarked bs m → rank bs n ≡ rank bs m → n ≡ m
rank_same bs n m a b e = elim (cases_lt n m) [
  | inl l ↦ let r = rank_rises bs n m l a in absurd (omega arith)
  | inr l ↦ elim (cases_lt m n) [
    | inl k ↦ let r = rank_rises bs m n k b in absurd (omega arith)
    | inr k ↦ omega arith
  ]
]

-- each number below that of all marked nodes is some node's
pub rank_onto : (bs : List Bool) (m : ℕ) → m < rank bs (length bs) → (n : ℕ) × IsMarked bs n × (rank bs n ≡ m)
rank_onto [] m h = absurd (omega arith)
rank_onto (true ∷ bs) zero h = (0, refl, refl)
rank_onto (true ∷ bs) (suc m) h = let r = rank_onto bs m (omega arith) in (suc r.0, r.1, ap suc r.2)
rank_onto (false ∷ bs) m h = let r = rank_onto bs m h in (suc r.0, r.1, r.2)

-- one more rank
pub ranks_more : (ranks now : List ℕ) (bs : List Bool) (i count : ℕ) → now ≡ ranks ++ count ∷ [] → length ranks ≡ i → count ≡ rank bs (i * 32) → ((k : ℕ) → k < i → slice_get ranks k ≡ Some (rank bs (k * 32)))
    → (k : ℕ) → k < i + 1 → slice_get now k ≡ Some (rank bs (k * 32))
ranks_more ranks now bs i count e long is each k h = rw e (elim (cases_lt k i) [
  | inl l ↦ get_left ranks (count ∷ []) k (omega arith) ∙ each k l
  | inr l ↦
      let same : k ≡ length ranks = omega arith in
      rw same (get_last ranks count ∙ ap Some (is ∙ ap (λ n. rank bs (n * 32)) (sym long)))
])

-- a mark read with a default
pub read_marked : (bs : List Bool) (n : ℕ) → get_or bs n false ≡ true → IsMarked bs n
read_marked [] n h = absurd cc
read_marked (b ∷ bs) zero h = ap Some h
read_marked (b ∷ bs) (suc n) h = read_marked bs n h

pub marked_read : (bs : List Bool) (n : ℕ) → IsMarked bs n → get_or bs n false ≡ true
marked_read bs n h = get_or_from_slice_get bs n true false h

-- a mark that is set or taken away
pub set_same : (bs : List Bool) (n : ℕ) (b : Bool) → n < length bs → slice_get (set bs n b) n ≡ Some b
set_same bs n b h =
    let w : n < length (set bs n b) = (let l = length-set bs n b in omega arith) in
    slice_get-get_or (set bs n b) n b w ∙ ap Some (get_or-set_same bs n b b h)

pub set_other : {A : Type 0} (xs : List A) (i j : ℕ) (y : A) → ¬ (j ≡ i) → slice_get (set xs i y) j ≡ slice_get xs j
set_other [] i j y h = refl
set_other (x ∷ xs) zero zero y h = absurd (h refl)
set_other (x ∷ xs) zero (suc j) y h = refl
set_other (x ∷ xs) (suc i) zero y h = refl
set_other (x ∷ xs) (suc i) (suc j) y h = set_other xs i j y (λ e. h (ap suc e))
