-- The columns to read are as a sheet wants its inputs.
use Rattle.std.proofs.Common.{◌≡◌, ◌≢◌, ◌∙◌, ℕ, zero, suc, ◌+◌, ◌-◌, ◌==◌, ◌≤◌, ◌<◌, ◌&&◌, List, [], ◌∷◌, ◌++◌, length, take, filter, not, Bool, true, false, Option, None, Some, Result, Ok, Err, sym, ap, arith, refl, subst, All, AllPairs, get_or, get_or-take, length-append, nat_le, min}
use Rattle.std.specs.Prelude.{if◌then◌else◌}
use Rattle.std.specs.List.{Contains, list_any, range_with_len}
use Rattle.std.proofs.lemmas.List.{length-take}
use Rattle.std.proofs.lemmas.List.Elements.{All-cons, All-contains, All-filter, All-nil, All-push, All-take}
use Rattle.std.proofs.lemmas.List.Quantifiers.{all_pairs_push}
use Rattle.std.proofs.lemmas.List.Kept.{AllPairs-cons, AllPairs-filter}
use Rattle.std.proofs.lemmas.Bool.{and_parts}
use Rattle.std.proofs.lemmas.Bool.Decides.{nat_tests}
use Rattle.fill_numbers.specs.Number.{number_in}
use Rattle.fill_sheet.specs.Columns.{AreInputs, IsColumn}
use Rattle.fillcsv_columns.specs.Columns.{column_in, column_of, named, of_number, within}
use Rattle.fillcsv_columns.specs.Choice.{Again, Filled, Full, Refusal, TooMany, chosen, further, new_among, of_word, one_more, others, some_of, sources_in, with_word, with_words}
use Rattle.fillcsv_columns.specs.declared.error.ColumnError.{ColumnError}
use Rattle.fillcsv_columns.specs.declared.error.ColumnError.TheVariants as fault

-- columns to read beside one that is filled
pub record AreSources (to : ℕ) (from : List ℕ) : Type 0 where
  pub few : length from ≤ 8
  pub columns : All IsColumn from
  pub distinct : AllPairs (λ a b. a ≢ b) from
  pub apart : All (λ a. a ≢ to) from

if_ok : {A E : Type 0} (b : Bool) (x y : A) (e : E) (r : Result A E) → ((s : A) → r ≡ Ok s → ⊥) → (if b then Ok x else r) ≡ Ok y → (b ≡ true) × (x ≡ y)
if_ok true x y e r never is = (refl, let same : x ≡ y = cc in same)
if_ok false x y e r never is = absurd (never y is)

within_column : (last column n : ℕ) → within last column ≡ Ok n → IsColumn n
within_column last column n is =
    let found = if_ok (nat_le 1 column && nat_le column (min last 1000)) column n fault.Missing (Err fault.Missing) (λ s e. cc) is in
    let tests = and_parts (nat_le 1 column) (nat_le column (min last 1000)) found.0 in
    let low : nat_le 1 column ≡ true = tests.0 in
    let high : nat_le column (min last 1000) ≡ true = tests.1 in
    let from : 1 ≤ column = grind (arith, nat_tests) in
    let to : column ≤ min last 1000 = grind (arith, nat_tests) in
    let proper : IsColumn column = record { first = from; last = omega arith } in
    subst IsColumn found.1 proper

number_column : (width : ℕ) (o : Option ℕ) (n : ℕ) → of_number width o ≡ Ok n → IsColumn n
number_column width None n is = cc
number_column width (Some m) n is = within_column width m n is

among_column : (columns : List ℕ) (width : ℕ) (word : List ℕ) (n : ℕ) → column_of columns width word ≡ Ok n → IsColumn n
among_column [] width word n is = number_column width (number_in word) n is
among_column (m ∷ []) width word n is = within_column 1000 m n is
among_column (m ∷ k ∷ more) width word n is = cc

word_column : (word : List ℕ) (r : Result ℕ ColumnError) (n : ℕ) → ((m : ℕ) → r ≡ Ok m → IsColumn m) → of_word word r ≡ Ok n → IsColumn n
word_column word (Ok m) n proper is = let same : m ≡ n = cc in subst IsColumn same (proper m refl)
word_column word (Err fault.Missing) n proper is = cc
word_column word (Err fault.Ambiguous) n proper is = cc
word_column word (Err fault.NoMemory) n proper is = cc

-- a column that a word chooses is one
pub chosen_column : (names : List (List ℕ)) (width : ℕ) (word : List ℕ) (n : ℕ) → chosen names width word ≡ Ok n → IsColumn n
chosen_column names width word n is =
    word_column word (column_in names width word) n (λ m e. among_column (named word 1 names) width word m e) is

none_is : (n : ℕ) (xs : List ℕ) (k d : ℕ) → list_any (λ y. y == n) xs ≡ false → k < length xs → get_or xs k d ≢ n
none_is n [] k d none lt same = absurd (omega arith)
none_is n (y ∷ ys) zero d none lt same =
    let here : (y == n) ≡ true = grind (arith, nat_tests) in
    let no : true ≡ false = rw here at none in cc
none_is n (y ∷ ys) (suc k) d none lt same =
    elim (y == n) as (λ b. (y == n) ≡ b → ⊥) [
      | true ↦ λ is. let no : true ≡ false = rw is at none in cc
      | false ↦ λ is. none_is n ys k d (rw is at none) (omega arith) same
    ] refl

if_not : {A E : Type 0} (b : Bool) (e : E) (r : Result A E) (y : A) → (if b then Err e else r) ≡ Ok y → (b ≡ false) × (r ≡ Ok y)
if_not true e r y is = cc
if_not false e r y is = (refl, is)

pushed : (to : ℕ) (before : List ℕ) (n : ℕ) → AreSources to before → IsColumn n → length before < 8 → n ≢ to → list_any (λ y. y == n) before ≡ false
    → AreSources to (before ++ n ∷ [])
pushed to before n good proper room differs fresh = record {
  few = omega (arith, length-append before (n ∷ []));
  columns = All-push IsColumn before n good.columns proper;
  distinct = all_pairs_push (λ a b. a ≢ b) before n good.distinct (λ k d lt. none_is n before k d fresh lt);
  apart = All-push (λ a. a ≢ to) before n good.apart differs;
}

more_good : (to : ℕ) (before : List ℕ) (word : List ℕ) (n : ℕ) (now : List ℕ) → AreSources to before → IsColumn n → one_more to before word n ≡ Ok now → AreSources to now
more_good to before word n now good proper is =
    let first = if_not (n == to) (Filled word) _ now is in
    let second = if_not (list_any (λ y. y == n) before) (Again word) _ now first.1 in
    let third = if_not (nat_le 8 (length before)) TooMany (Ok (before ++ n ∷ [])) now second.1 in
    let test : (n == to) ≡ false = first.0 in
    let full : nat_le 8 (length before) ≡ false = third.0 in
    let room : length before < 8 = grind (arith, nat_tests) in
    let differs : n ≢ to = λ e. (let no : (n == to) ≡ true = grind (arith, nat_tests) in let bad : true ≡ false = sym no ∙ test in cc) in
    let same : before ++ n ∷ [] ≡ now = (let done : Ok (before ++ n ∷ []) ≡ Ok now = third.1 in cc) in
    subst (AreSources to) same (pushed to before n good proper room differs second.0)

further_ok : {A B : Type 0} (rest : A → Result B Refusal) (r : Result A Refusal) (y : B) → further rest r ≡ Ok y → (x : A) × (r ≡ Ok x) × (rest x ≡ Ok y)
further_ok rest (Ok x) y is = (x, refl, is)
further_ok rest (Err e) y is = cc

words_good : (names : List (List ℕ)) (width to : ℕ) (before : List ℕ) (words : List (List ℕ)) (after : List ℕ)
    → AreSources to before → with_words names width to before words ≡ Ok after → AreSources to after
words_good names width to before [] after good is = let same : before ≡ after = cc in subst (AreSources to) same good
words_good names width to before (word ∷ more) after good is =
    let step = further_ok (λ now. with_words names width to now more) (with_word names width to before word) after is in
    let one = further_ok (one_more to before word) (chosen names width word) step.0 step.1 in
    words_good names width to step.0 more after
    (more_good to before word one.0 step.0 good (chosen_column names width word one.0 one.1) one.2) step.2

-- ---- all columns but one

range_from : (a n : ℕ) → All (λ m. (a ≤ m) × (m < a + n)) (range_with_len a n)
range_from a zero = All-nil (λ m. (a ≤ m) × (m < a + 0))
range_from a (suc n) =
    All-cons (λ m. (a ≤ m) × (m < a + suc n)) a (range_with_len (a + 1) n) (omega arith, omega arith)
    (λ k d lt. let here = range_from (a + 1) n k d lt in (omega (arith, here.0), omega (arith, here.1)))

range_distinct : (a n : ℕ) → AllPairs (λ x y. x ≢ y) (range_with_len a n)
range_distinct a zero = λ i j d less lt. absurd (omega arith)
range_distinct a (suc n) =
    AllPairs-cons (λ x y. x ≢ y) a (range_with_len (a + 1) n)
    (λ k d lt same. let here = range_from (a + 1) n k d lt in absurd (omega (arith, here.0, same)))
    (range_distinct (a + 1) n)

filtered : (p : ℕ → Bool) (xs : List ℕ) → All (λ m. p m ≡ true) (filter p xs)
filtered p [] = All-nil (λ m. p m ≡ true)
filtered p (x ∷ xs) =
    elim (p x) as (λ b. p x ≡ b → All (λ m. p m ≡ true) (filter p (x ∷ xs))) [
      | true ↦ λ is. rw is (All-cons (λ m. p m ≡ true) x (filter p xs) is (filtered p xs))
      | false ↦ λ is. rw is (filtered p xs)
    ] refl

taken_pairs : (n : ℕ) (xs : List ℕ) → AllPairs (λ x y. x ≢ y) xs → AllPairs (λ x y. x ≢ y) (take n xs)
taken_pairs n xs pairs i j d less lt same =
    let size = length-take n xs in
    let there : j < n = omega (arith, size) in
    let here : i < n = omega arith in
    pairs i j d less (omega (arith, size)) (sym (get_or-take n xs i d here) ∙ same ∙ get_or-take n xs j d there)

others_good : (width to : ℕ) → AreSources to (others width to)
others_good width to =
    let p : ℕ → Bool = λ n. not (n == to) in
    let all = range_with_len 1 (min width 1000) in
    record {
      few = omega (arith, length-take 8 (filter p all));
      columns = All-take IsColumn 8 (filter p all) (All-filter p IsColumn all (λ k d lt. let here = range_from 1 (min width 1000) k d lt in record { first = here.0; last = omega (arith, here.1) }));
      distinct = taken_pairs 8 (filter p all) (AllPairs-filter (λ x y. x ≢ y) p all (range_distinct 1 (min width 1000)));
      apart = All-take (λ a. a ≢ to) 8 (filter p all) (λ k d lt same.
          let here : not (get_or (filter p all) k d == to) ≡ true = filtered p all k d lt in
          let test : (get_or (filter p all) k d == to) ≡ true = grind (arith, nat_tests) in
          let bad : not true ≡ true = rw test at here in cc);
    }

some_good : (to : ℕ) (xs from : List ℕ) → AreSources to xs → some_of xs ≡ Ok from → AreSources to from × (0 < length from)
some_good to [] from good is = cc
some_good to (x ∷ xs) from good is = let same : x ∷ xs ≡ from = cc in rw (← same) (good, omega arith)

longer : (names : List (List ℕ)) (width to : ℕ) (before : List ℕ) (words : List (List ℕ)) (after : List ℕ)
    → with_words names width to before words ≡ Ok after → length before + length words ≤ length after
longer names width to before [] after is = let same : before ≡ after = cc in rw (← same) (omega arith)
longer names width to before (word ∷ more) after is =
    let step = further_ok (λ now. with_words names width to now more) (with_word names width to before word) after is in
    let one = further_ok (one_more to before word) (chosen names width word) step.0 step.1 in
    let first = if_not (one.0 == to) (Filled word) _ step.0 one.2 in
    let second = if_not (list_any (λ y. y == one.0) before) (Again word) _ step.0 first.1 in
    let third = if_not (nat_le 8 (length before)) TooMany (Ok (before ++ one.0 ∷ [])) step.0 second.1 in
    let same : before ++ one.0 ∷ [] ≡ step.0 = (let done : Ok (before ++ one.0 ∷ []) ≡ Ok step.0 = third.1 in cc) in
    let size : length step.0 ≡ length before + 1 = ap length (sym same) ∙ length-append before (one.0 ∷ []) in
    let rest = longer names width to step.0 more after step.2 in
    omega (arith, size, rest)

none_good : (to : ℕ) → AreSources to []
none_good to = record { few = omega arith; columns = All-nil IsColumn; distinct = λ i j d less lt. absurd (omega arith); apart = All-nil (λ a. a ≢ to) }

-- the columns to read are as a sheet wants its inputs, and at least one
pub sources_good : (names : List (List ℕ)) (width to : ℕ) (words : List (List ℕ)) (from : List ℕ)
    → sources_in names width to words ≡ Ok from → AreSources to from × (0 < length from)
sources_good names width to [] from is = some_good to (others width to) from (others_good width to) is
sources_good names width to (word ∷ more) from is =
    (words_good names width to [] (word ∷ more) from (none_good to) is, let long = longer names width to [] (word ∷ more) from is in omega (arith, long))

pub inputs_good : (to : ℕ) (from : List ℕ) → AreSources to from × (0 < length from) → AreInputs from
inputs_good to from good = record { some = good.1; few = good.0.few; columns = good.0.columns; distinct = good.0.distinct }

pub output_good : (to : ℕ) (from : List ℕ) → AreSources to from → ¬ (Contains from to)
output_good to from good there = All-contains (λ a. a ≢ to) from to good.apart there refl

-- a new column has a number
pub new_is_column : (columns : List ℕ) (width : ℕ) (name : List ℕ) (n : ℕ) → new_among columns width name ≡ Ok n → IsColumn n
new_is_column [] width name n is =
    let found = if_not (nat_le 1000 width) Full (Ok (width + 1)) n is in
    let test : nat_le 1000 width ≡ false = found.0 in
    let few : width < 1000 = grind (arith, nat_tests) in
    let same : width + 1 ≡ n = (let made : Ok (width + 1) ≡ Ok n = found.1 in cc) in
    record { first = omega arith; last = omega arith }
new_is_column (column ∷ more) width name n is = cc
