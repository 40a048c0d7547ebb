-- Records that are taken one after another.
use Rattle.std.proofs.Common.{◌≡◌, ◌∙◌, ℕ, zero, suc, ◌+◌, ◌<◌, ◌≤◌, List, [], ◌∷◌, ◌++◌, length, take, drop, Option, Some, None, refl, sym, ap, arith, add-one}
use Rattle.std.specs.Prelude.{slice_get}
use Rattle.std.proofs.lemmas.List.{drop-drop, drop_all, length-take-le, take_all}
use Rattle.std.proofs.lemmas.Option.{slice_get_within}
use Rattle.fill_output.specs.Fields.{Fields}
use Rattle.fillcsv_blocks.specs.declared.numbered.Numbered.{Numbered}
use Rattle.fillcsv_filling.specs.Reading.{most_rows, numbered}

-- what comes next is the next one of all
pub next_of : {A : Type 0} (n : ℕ) (all : List A) → slice_get (drop n all) 0 ≡ slice_get all n
next_of zero [] = refl
next_of zero (x ∷ xs) = refl
next_of (suc n) [] = refl
next_of (suc n) (x ∷ xs) = next_of n xs

pub is_within : {A : Type 0} (n : ℕ) (all : List A) (x : A) → Some x ≡ slice_get (drop n all) 0 → n < length all
is_within n all x found = slice_get_within all n x (sym (next_of n all) ∙ sym found)

-- nothing comes next only after the last one
pub is_past : {A : Type 0} (n : ℕ) (all : List A) → None ≡ slice_get (drop n all) 0 → length all ≤ n
is_past n [] none = omega arith
is_past zero (x ∷ xs) none = cc
is_past (suc n) (x ∷ xs) none = let more = is_past n xs none in omega (arith, more)

pub drop_next : {A : Type 0} (n : ℕ) (all : List A) → drop 1 (drop n all) ≡ drop (n + 1) all
drop_next n all = drop-drop 1 n all

pub take_next : {A : Type 0} (n : ℕ) (all : List A) (x : A) → Some x ≡ slice_get (drop n all) 0 → take (suc n) all ≡ take n all ++ x ∷ []
take_next zero [] x found = cc
take_next zero (y ∷ ys) x found = cc
take_next (suc n) [] x found = cc
take_next (suc n) (y ∷ ys) x found = ap (λ l. y ∷ l) (take_next n ys x found)

pub most_rows_is : most_rows ≡ 16384
unfolding most_rows
most_rows_is = refl

abbrev pub row_at : ℕ → Fields → Numbered
row_at n fields = record { number = n; fields = fields }

pub numbered_push : (first : ℕ) (rows : List Fields) (fields : Fields) → numbered first (rows ++ fields ∷ []) ≡ numbered first rows ++ row_at (first + length rows) fields ∷ []
numbered_push first [] fields = let same : first ≡ first + 0 = omega arith in ap (λ n. row_at n fields ∷ []) same
numbered_push first (x ∷ rows) fields =
    let same : first + 1 + length rows ≡ first + suc (length rows) = omega arith in
    ap (λ l. row_at first x ∷ l) (numbered_push (first + 1) rows fields ∙ ap (λ n. numbered (first + 1) rows ++ row_at n fields ∷ []) same)

-- one row more
pub row_more : (first n : ℕ) (all left : List Fields) (found : Option Fields) (fields : Fields) (before now : List Numbered) → before ≡ numbered first (take n all) → left ≡ drop n all
    → found ≡ slice_get left 0 → found ≡ Some fields → now ≡ before ++ row_at (first + n) fields ∷ [] → now ≡ numbered first (take (n + 1) all)
row_more first n all left found fields before now rows rest next some push =
    let here : Some fields ≡ slice_get (drop n all) 0 = sym some ∙ next ∙ ap (λ l. slice_get l 0) rest in
    let size : length (take n all) ≡ n = length-take-le n all (omega (arith, is_within n all fields here)) in
    let ends : first + n ≡ first + length (take n all) = omega arith in
    let more : take (n + 1) all ≡ take n all ++ fields ∷ [] = rw add-one (take_next n all fields here) in
    push ∙ ap (λ l. l ++ row_at (first + n) fields ∷ []) rows
    ∙ ap (λ k. numbered first (take n all) ++ row_at k fields ∷ []) ends
    ∙ sym (numbered_push first (take n all) fields) ∙ sym (ap (λ l. numbered first l) more)

-- all rows, where none comes next
pub rows_end : (first n most : ℕ) (all left : List Fields) (found : Option Fields) (rows : List Numbered) → n ≤ most → rows ≡ numbered first (take n all) → left ≡ drop n all
    → found ≡ slice_get left 0 → found ≡ None → rows ≡ numbered first (take most all)
rows_end first n most all left found rows few is rest next none =
    let past : length all ≤ n = is_past n all (sym none ∙ next ∙ ap (λ l. slice_get l 0) rest) in
    let upto : length all ≤ most = omega arith in
    is ∙ ap (λ l. numbered first l) (take_all n all past ∙ sym (take_all most all upto))

pub left_end : (n most : ℕ) (all left now : List Fields) (found : Option Fields) → n ≤ most → left ≡ drop n all
    → found ≡ slice_get left 0 → found ≡ None → now ≡ drop 1 left → now ≡ drop most all
left_end n most all left now found few rest next none after =
    let past : length all ≤ n = is_past n all (sym none ∙ next ∙ ap (λ l. slice_get l 0) rest) in
    let upto : length all ≤ most = omega arith in
    let beyond : length all ≤ n + 1 = omega arith in
    after ∙ ap (drop 1) rest ∙ drop_next n all ∙ drop_all (n + 1) all beyond ∙ sym (drop_all most all upto)
