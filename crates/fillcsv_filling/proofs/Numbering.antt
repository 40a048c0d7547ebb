-- Records under their numbers, and the rows of a sheet.
use Rattle.std.proofs.Common.{◌≡◌, ◌∙◌, ℕ, zero, suc, ◌+◌, ◌<◌, ◌≤◌, List, [], ◌∷◌, ◌++◌, length, map, take, drop, All, Some, refl, sym, ap, subst, arith, append_assoc}
use Rattle.std.specs.Prelude.{option_map, slice_get}
use Rattle.std.specs.List.{range_with_len}
use Rattle.std.proofs.lemmas.List.{drop-drop, drop_min, length-append, length-take, take-append-drop, take_min}
use Rattle.std.proofs.Math.Seq.{take-append-add}
use Rattle.std.proofs.lemmas.List.Elements.{All-cons, All-nil}
use Rattle.std.proofs.lemmas.List.Kept.{AllPairs-cons}
use Rattle.std.proofs.lemmas.Option.{slice_get-map}
use Rattle.fill_text.specs.Data.{nth}
use Rattle.fill_output.specs.Fields.{Fields}
use Rattle.fillcsv_blocks.specs.Merged.{RowsRise, numbers_of}
use Rattle.fillcsv_blocks.specs.declared.numbered.Numbered.{Numbered}
use Rattle.fillcsv_filling.specs.Reading.{AreOf, numbered}
use Rattle.fillcsv_filling.proofs.Choosing.{of_after, of_more, of_same}
use Rattle.fillcsv_filling.proofs.Counting.{row_at}

pub length_numbered : (first : ℕ) (rows : List Fields) → length (numbered first rows) ≡ length rows
length_numbered first [] = refl
length_numbered first (fields ∷ rows) = ap suc (length_numbered (first + 1) rows)

pub numbers_numbered : (first : ℕ) (rows : List Fields) → numbers_of (numbered first rows) ≡ range_with_len first (length rows)
numbers_numbered first [] = refl
numbers_numbered first (fields ∷ rows) = ap (λ l. first ∷ l) (numbers_numbered (first + 1) rows)

pub numbered_append : (first : ℕ) (xs ys : List Fields) → numbered first (xs ++ ys) ≡ numbered first xs ++ numbered (first + length xs) ys
numbered_append first [] ys = let same : first ≡ first + 0 = omega arith in ap (λ n. numbered n ys) same
numbered_append first (x ∷ xs) ys =
    let same : first + 1 + length xs ≡ first + suc (length xs) = omega arith in
    ap (λ l. row_at first x ∷ l) (numbered_append (first + 1) xs ys ∙ ap (λ n. numbered (first + 1) xs ++ numbered n ys) same)

-- all records from one number on have numbers that are not below it, and rise
from_numbered : (n first : ℕ) (rows : List Fields) → n < first → All (λ it. n < it.number) (numbered first rows)
from_numbered n first [] lt = All-nil (λ (it : Numbered). n < it.number)
from_numbered n first (fields ∷ rows) lt =
    All-cons (λ (it : Numbered). n < it.number) (row_at first fields) (numbered (first + 1) rows) lt (from_numbered n (first + 1) rows (omega arith))

pub rises_numbered : (first : ℕ) (rows : List Fields) → RowsRise (numbered first rows)
rises_numbered first [] = λ i j d less lt. absurd (omega arith)
rises_numbered first (fields ∷ rows) =
    AllPairs-cons (λ (a b : Numbered). a.number < b.number) (row_at first fields) (numbered (first + 1) rows) (from_numbered first (first + 1) rows (omega arith)) (rises_numbered (first + 1) rows)

-- each row is that of its number
get_past : (before : List Fields) (fields : Fields) (after : List Fields) → slice_get (before ++ fields ∷ after) (length before) ≡ Some fields
get_past [] fields after = refl
get_past (x ∷ before) fields after = get_past before fields after

abbrev pub HasRecord : List Fields → Numbered → Type 0
HasRecord all it = nth all it.number ≡ Some it.fields

there_from : (all before rows : List Fields) (first : ℕ) → all ≡ before ++ rows → first ≡ length before + 1 → All (HasRecord all) (numbered first rows)
there_from all before [] first is at = All-nil (HasRecord all)
there_from all before (fields ∷ rows) first is at =
    let unary : first ≡ suc (length before) = omega arith in
    let here : nth all first ≡ Some fields = ap (nth all) unary ∙ ap (λ l. slice_get l (length before)) is ∙ get_past before fields rows in
    let size : first + 1 ≡ length (before ++ fields ∷ []) + 1 = omega (arith, length-append before (fields ∷ []), at) in
    All-cons (HasRecord all) (row_at first fields) (numbered (first + 1) rows) here
    (there_from all (before ++ fields ∷ []) rows (first + 1) (is ∙ sym (append_assoc before (fields ∷ []) rows)) size)

pub there : (all : List Fields) → All (HasRecord all) (numbered 1 all)
there all = there_from all [] all 1 refl refl

pub nth_map : {A B : Type 0} (f : A → B) (all : List A) (n : ℕ) (x : A) → nth all n ≡ Some x → nth (map f all) n ≡ Some (f x)
nth_map f all zero x is = cc
nth_map f all (suc n) x is = slice_get-map f all n ∙ ap (option_map f) is

-- the rows of a block are rows of the sheet
pub block_of : (n most : ℕ) (all : List Fields) → n ≤ length all → AreOf (numbered (n + 1) (take most (drop n all))) (numbered 1 all)
block_of n most all within =
    let first = numbered_append 1 (take n all) (drop n all) in
    let size : length (take n all) ≡ n = omega (arith, length-take n all, within) in
    let at : 1 + length (take n all) ≡ n + 1 = omega arith in
    let rest = numbered_append (n + 1) (take most (drop n all)) (drop most (drop n all)) in
    let block = numbered (n + 1) (take most (drop n all)) in
    let later = numbered (n + 1 + length (take most (drop n all))) (drop most (drop n all)) in
    let whole : numbered 1 all ≡ numbered 1 (take n all) ++ (block ++ later) =
    ap (numbered 1) (sym (take-append-drop n all)) ∙ first ∙ ap (λ k. numbered 1 (take n all) ++ numbered k (drop n all)) at
    ∙ ap (λ l. numbered 1 (take n all) ++ numbered (n + 1) l) (sym (take-append-drop most (drop n all))) ∙ ap (λ l. numbered 1 (take n all) ++ l) rest
    in
    subst (λ (l : List Numbered). AreOf block l) (sym whole) (of_after block (numbered 1 (take n all)) (block ++ later) (of_more block block later (of_same block)))

-- as many as were taken
take_length : {A : Type 0} (most : ℕ) (xs : List A) → take (length (take most xs)) xs ≡ take most xs
take_length most xs = ap (λ k. take k xs) (length-take most xs) ∙ take_min most xs

-- the first n records and the next ones
pub take_both : {A : Type 0} (n most : ℕ) (all : List A) → n ≤ length all → take (n + length (take most (drop n all))) all ≡ take n all ++ take most (drop n all)
take_both n most all within =
    let size : n ≡ length (take n all) = omega (arith, length-take n all, within) in
    let k = length (take most (drop n all)) in
    ap (take (n + k)) (sym (take-append-drop n all)) ∙ ap (λ m. take (m + k) (take n all ++ drop n all)) size
    ∙ take-append-add (take n all) (drop n all) k ∙ ap (λ l. take n all ++ l) (take_length most (drop n all))

drop_length : {A : Type 0} (most : ℕ) (xs : List A) → drop (length (take most xs)) xs ≡ drop most xs
drop_length most xs = ap (λ k. drop k xs) (length-take most xs) ∙ drop_min most xs

-- what is left after the next ones
pub drop_both : {A : Type 0} (n most : ℕ) (all : List A) → drop most (drop n all) ≡ drop (n + length (take most (drop n all))) all
drop_both n most all = sym (drop_length most (drop n all)) ∙ drop-drop (length (take most (drop n all))) n all
