-- What is seen of records one after another.
use Rattle.std.proofs.Common.{◌≡◌, ◌∙◌, ℕ, zero, suc, ◌+◌, ◌<◌, ◌≤◌, List, [], ◌∷◌, ◌++◌, length, max, nat_lt, Bool, take, drop, Option, Some, None, refl, sym, ap, arith, add-one}
use Rattle.std.specs.Prelude.{slice_get}
use Rattle.std.specs.Option.{is_some}
use Rattle.std.proofs.lemmas.List.{drop_all, length-append, length-take}
use Rattle.fill_records.specs.Texts.{bad_column, first_bad, or_later}
use Rattle.fill_output.specs.Fields.{Fields}
use Rattle.fillcsv_columns.specs.Columns.{width}
use Rattle.fillcsv_filling.proofs.Counting.{is_past, take_next}

width_push : (records : List Fields) (fields : Fields) → width (records ++ fields ∷ []) ≡ max (width records) (length fields)
width_push [] fields = grind arith
width_push (x ∷ records) fields = let more = width_push records fields in grind (arith, more)

pub width_more : (n : ℕ) (all : List Fields) (fields : Fields) → Some fields ≡ slice_get (drop n all) 0 → width (take (n + 1) all) ≡ max (width (take n all)) (length fields)
width_more n all fields found =
    let more = take_next n all fields found in
    let here : take (n + 1) all ≡ take n all ++ fields ∷ [] = rw add-one more in
    ap width here ∙ width_push (take n all) fields

pub count_more : (n : ℕ) (all : List Fields) (fields : Fields) → Some fields ≡ slice_get (drop n all) 0 → length (take (n + 1) all) ≡ length (take n all) + 1
count_more n all fields found =
    let more = take_next n all fields found in
    let here : take (n + 1) all ≡ take n all ++ fields ∷ [] = rw add-one more in
    ap length here ∙ length-append (take n all) (fields ∷ [])

next_cons : {A : Type 0} (n : ℕ) (all : List A) (x : A) → Some x ≡ slice_get (drop n all) 0 → drop n all ≡ x ∷ drop (suc n) all
next_cons zero [] x found = cc
next_cons zero (y ∷ all) x found = cc
next_cons (suc n) [] x found = cc
next_cons (suc n) (y ∷ all) x found = next_cons n all x found

next_taken : {A : Type 0} (n most : ℕ) (all : List A) → n < most → slice_get (drop n (take most all)) 0 ≡ slice_get (drop n all) 0
next_taken n zero all few = absurd (omega arith)
next_taken zero (suc most) [] few = refl
next_taken zero (suc most) (y ∷ all) few = refl
next_taken (suc n) (suc most) [] few = refl
next_taken (suc n) (suc most) (y ∷ all) few = next_taken n most all (omega arith)

-- what is next in all records is next in the first ones
pub bad_next : (columns : List ℕ) (n most number : ℕ) (all : List Fields) (fields : Fields) → n < most → Some fields ≡ slice_get (drop n all) 0
    → first_bad columns number (drop n (take most all)) ≡ or_later number (bad_column columns fields) (first_bad columns (number + 1) (drop (n + 1) (take most all)))
bad_next columns n most number all fields few found =
    let here = next_cons n (take most all) fields (found ∙ sym (next_taken n most all few)) in
    let next : suc n ≡ n + 1 = omega arith in
    ap (first_bad columns number) (here ∙ ap (λ k. fields ∷ drop k (take most all)) next)

pub bad_past : (columns : List ℕ) (n most number : ℕ) (all : List Fields) → length all ≤ n → first_bad columns number (drop n (take most all)) ≡ None
bad_past columns n most number all past =
    let within : length (take most all) ≤ n = omega (arith, length-take most all, past) in
    ap (first_bad columns number) (drop_all n (take most all) within)

-- one record more, which is good, or a bad one
pub good_more : (columns : List ℕ) (n most : ℕ) (all left : List Fields) (found : Option Fields) (fields : Fields) (bad : Option (ℕ × ℕ)) → n < most → left ≡ drop n all → found ≡ slice_get left 0 → found ≡ Some fields
    → bad ≡ first_bad columns (n + 1) (drop n (take most all)) → None ≡ bad_column columns fields → bad ≡ first_bad columns (n + 1 + 1) (drop (n + 1) (take most all))
good_more columns n most all left found fields bad few rest next some before good =
    let here : Some fields ≡ slice_get (drop n all) 0 = sym some ∙ next ∙ ap (λ l. slice_get l 0) rest in
    before ∙ bad_next columns n most (n + 1) all fields few here ∙ ap (λ b. or_later (n + 1) b (first_bad columns (n + 1 + 1) (drop (n + 1) (take most all)))) (sym good)

pub bad_here : (columns : List ℕ) (n most column : ℕ) (all left : List Fields) (found : Option Fields) (fields : Fields) (bad : Option (ℕ × ℕ)) → n < most → left ≡ drop n all → found ≡ slice_get left 0 → found ≡ Some fields
    → bad ≡ first_bad columns (n + 1) (drop n (take most all)) → Some column ≡ bad_column columns fields → Some (n + 1, column) ≡ bad
bad_here columns n most column all left found fields bad few rest next some before is =
    let here : Some fields ≡ slice_get (drop n all) 0 = sym some ∙ next ∙ ap (λ l. slice_get l 0) rest in
    sym (before ∙ bad_next columns n most (n + 1) all fields few here ∙ ap (λ b. or_later (n + 1) b (first_bad columns (n + 1 + 1) (drop (n + 1) (take most all)))) (sym is))

pub none_bad : (columns : List ℕ) (n most : ℕ) (all left : List Fields) (found : Option Fields) (bad : Option (ℕ × ℕ)) → left ≡ drop n all → found ≡ slice_get left 0 → found ≡ None
    → bad ≡ first_bad columns (n + 1) (drop n (take most all)) → None ≡ bad
none_bad columns n most all left found bad rest next none before =
    sym (before ∙ bad_past columns n most (n + 1) all (is_past n all (sym none ∙ next ∙ ap (λ l. slice_get l 0) rest)))

-- another record is there exactly where there are more
some_past : {A : Type 0} (most : ℕ) (all : List A) → is_some (slice_get (drop most all) 0) ≡ nat_lt most (length all)
some_past zero [] = refl
some_past zero (x ∷ all) = grind arith
some_past (suc most) [] = grind arith
some_past (suc most) (x ∷ all) = let more = some_past most all in grind (arith, more)

pub more_are : {A : Type 0} (n most : ℕ) (all left : List A) (found : Option A) (more : Bool) → n ≡ most → left ≡ drop n all → found ≡ slice_get left 0 → more ≡ is_some found → more ≡ nat_lt most (length all)
more_are n most all left found more full rest next is =
    is ∙ ap is_some (next ∙ ap (λ l. slice_get l 0) rest) ∙ ap (λ k. is_some (slice_get (drop k all) 0)) full ∙ some_past most all
