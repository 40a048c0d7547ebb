-- A pass over records that are told, one after another.
use Rattle.std.proofs.Common.{◌≡◌, ◌∙◌, ℕ, zero, suc, ◌+◌, ◌≤◌, List, [], ◌∷◌, length, take, drop, max, nat_lt, Bool, true, false, Option, Some, None, refl, sym, ap, arith, add-one}
use Rattle.std.specs.Prelude.{IfSome, slice_get}
use Rattle.std.proofs.lemmas.List.{take_all}
use Rattle.fillcsv_columns.specs.Columns.{width}
use Rattle.fill_output.specs.Fields.{Fields}
use Rattle.fill_passes.proofs.Known.{when_some}
use Rattle.fillcsv_filling.specs.Long.{header_in, header_with}
use Rattle.fillcsv_filling.proofs.Counting.{drop_next, is_past}
use Rattle.fillcsv_filling.proofs.Scanned.{count_more, width_more}

module _ (n : ℕ) (all : List Fields) (pass : Option (List Fields)) (told : pass ≡ Some (drop n all)) where
  -- what a pass gives next
  pub next_told : (found : Option Fields) → IfSome pass (λ rest. found ≡ slice_get rest 0) → found ≡ slice_get (drop n all) 0
  next_told found known = when_some (λ (rest : List Fields). found ≡ slice_get rest 0) pass (drop n all) told known

  -- and what it has left then
  pub left_told : (after : Option (List Fields)) → IfSome pass (λ rest. after ≡ Some (drop 1 rest)) → after ≡ Some (drop (n + 1) all)
  left_told after known =
      when_some (λ (rest : List Fields). after ≡ Some (drop 1 rest)) pass (drop n all) told known ∙ ap (λ (l : List Fields). Some l) (drop_next n all)

  -- none is next after the last one
  pub past_told : (found : Option Fields) → IfSome pass (λ rest. found ≡ slice_get rest 0) → found ≡ None → length all ≤ n
  past_told found known none = is_past n all (sym none ∙ next_told found known)

header_next : (header : Bool) (n : ℕ) (all : List Fields) (fields : Fields) → Some fields ≡ slice_get (drop n all) 0
    → header_with header n fields (header_in header (take n all)) ≡ header_in header (take (suc n) all)
header_next false n all fields found = refl
header_next true zero [] fields found = cc
header_next true zero (x ∷ xs) fields found = found
header_next true (suc n) [] fields found = cc
header_next true (suc n) (x ∷ xs) fields found = grind arith

-- the header after one record more
pub header_more : (header : Bool) (n count : ℕ) (all : List Fields) (fields : Fields) (before now : Option Fields) → now ≡ header_with header count fields before → count ≡ n
    → before ≡ header_in header (take n all) → Some fields ≡ slice_get (drop n all) 0 → now ≡ header_in header (take (n + 1) all)
header_more header n count all fields before now is same first found =
    let next : header_with header n fields (header_in header (take n all)) ≡ header_in header (take (n + 1) all) = rw add-one (header_next header n all fields found) in
    is ∙ ap (λ (k : ℕ). header_with header k fields before) same ∙ ap (header_with header n fields) first ∙ next

-- where there are no more records, the first ones are all
pub taken_all : (n most : ℕ) (all : List Fields) → n ≤ most → length all ≤ n → take n all ≡ take most all
taken_all n most all few past = take_all n all past ∙ sym (take_all most all (omega (arith, few, past)))

pub none_over : (most count : ℕ) → count ≤ most → false ≡ nat_lt most count
none_over most count few = grind (arith, few)

-- the width and the number of records after one more
module _ (n : ℕ) (all : List Fields) (fields : Fields) (next : Some fields ≡ slice_get (drop n all) 0) (before now : ℕ) where
  pub width_told : now ≡ max before (length fields) → before ≡ width (take n all) → now ≡ width (take (n + 1) all)
  width_told is first = is ∙ ap (λ (w : ℕ). max w (length fields)) first ∙ sym (width_more n all fields next)

  pub count_told : now ≡ before + 1 → before ≡ length (take n all) → now ≡ length (take (n + 1) all)
  count_told is first = is ∙ ap (λ (k : ℕ). k + 1) first ∙ sym (count_more n all fields next)
