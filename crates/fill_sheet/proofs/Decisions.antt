-- What decides whether records are a sheet.
use Rattle.std.proofs.Common.{◌≡◌, ℕ, ◌+◌, ◌<◌, ◌≤◌, List, [], ◌∷◌, ◌++◌, length, take, map, Bool, true, false, Option, None, Some, Ok, Err, nat_lt, All, IsTrue, get_or, option_to_list, refl, arith}
use Rattle.std.proofs.lemmas.Bool.Decides.{nat_tests}
use Rattle.std.proofs.lemmas.List.{take-take, length-take, length-drop, length-map}
use Rattle.std.proofs.lemmas.List.Elements.{All-append, All-cons, All-nil, All-map}
use Rattle.std.proofs.lemmas.List.Sorted.{All-permutation, IsPermutation-sym, IsPermutation-trans, IsPermutation-append_left, length_permutation}
use Rattle.std.specs.Str.{is_utf8}
use Rattle.fill_records.specs.Records.{field_of}
use Rattle.fill_sheet.specs.Columns.{IsColumn, AreInputs, IsOutput, rising, used}
use Rattle.fill_records.specs.Texts.{IsText, first_bad, text_in}
use Rattle.fill_sheet.specs.declared.sheet.TheConstants.{MOST_ROWS}
use Rattle.fill_sheet.specs.Sheet.{IsSheet, headers, row_records, row_of, sheet_of}
use Rattle.fill_sheet.specs.declared.error.SheetError.TheVariants.{TooManyRows, NotUtf8}
use Rattle.fill_sheet.proofs.Rising.{rising-permutation}
use Rattle.fill_sheet.proofs.Strict.{rising-strict}
use Rattle.fill_records.proofs.Texts.{texts_from_no_bad}

-- the records of the rows in which a bad field is looked for
abbrev pub bad_in : ℕ → Bool → List ℕ → Option ℕ → List (List (List ℕ)) → Option (ℕ × ℕ)
bad_in most header inputs output records = first_bad (used inputs output) (headers header + 1) (row_records most header records)

pub sheet_of-bad : (most : ℕ) (header : Bool) (inputs : List ℕ) (output : Option ℕ) (records : List (List (List ℕ))) (number column : ℕ)
    → bad_in most header inputs output records ≡ Some (number, column) → sheet_of most header inputs output records ≡ Err (NotUtf8 number column)
sheet_of-bad most header inputs output records number column bad = rw bad refl

pub sheet_of-many : (most : ℕ) (header : Bool) (inputs : List ℕ) (output : Option ℕ) (records : List (List (List ℕ)))
    → bad_in most header inputs output records ≡ None → most < length records → sheet_of most header inputs output records ≡ Err (TooManyRows most)
sheet_of-many most header inputs output records none many = let more : nat_lt most (length records) ≡ true = grind (arith, nat_tests) in rw (none, more) refl

pub sheet_of-rows : (most : ℕ) (header : Bool) (inputs : List ℕ) (output : Option ℕ) (records : List (List (List ℕ)))
    → bad_in most header inputs output records ≡ None → length records ≤ most
    → sheet_of most header inputs output records ≡ Ok (record { inputs = rising inputs; rows = map (row_of (rising inputs) output) (row_records most header records) })
sheet_of-rows most header inputs output records none few = let more : nat_lt most (length records) ≡ false = grind (arith, nat_tests) in rw (none, more) refl

same_test : (a b n : ℕ) → (n < a → n < b) → (n < b → n < a) → nat_lt n a ≡ nat_lt n b
same_test a b n there back = grind (arith, nat_tests)

-- one record more than a sheet may have is enough to decide
pub sheet_of-take : (most : ℕ) (header : Bool) (inputs : List ℕ) (output : Option ℕ) (records : List (List (List ℕ))) → sheet_of most header inputs output (take (most + 1) records) ≡ sheet_of most header inputs output records
sheet_of-take most header inputs output records =
    let front : take most (take (most + 1) records) ≡ take most records = take-take most (most + 1) records (omega arith) in
    let size = length-take (most + 1) records in
    let test : nat_lt most (length (take (most + 1) records)) ≡ nat_lt most (length records) = same_test (length (take (most + 1) records)) (length records) most (λ lt. omega arith) (λ lt. omega arith) in
    rw (front, test) refl

pub headers-few : (header : Bool) → headers header ≤ 1
headers-few true = omega arith
headers-few false = omega arith

pub row_records-few : (most : ℕ) (header : Bool) (records : List (List (List ℕ))) → length (row_records most header records) ≤ most
row_records-few most header records = omega (arith, length-drop (headers header) (take most records), length-take most records)

-- the columns that are read are columns
used-columns : (inputs : List ℕ) (output : Option ℕ) → All IsColumn inputs → IsOutput inputs output → All IsColumn (used inputs output)
used-columns inputs None columns is = All-permutation IsColumn (inputs ++ []) (rising (inputs ++ [])) (rising-permutation (inputs ++ [])) (All-append IsColumn inputs [] columns (All-nil IsColumn))
used-columns inputs (Some output) columns is =
    All-permutation IsColumn (inputs ++ output ∷ []) (rising (inputs ++ output ∷ [])) (rising-permutation (inputs ++ output ∷ []))
    (All-append IsColumn inputs (output ∷ []) columns (All-cons IsColumn output [] is.0 (All-nil IsColumn)))

-- and count from 1
pub used-counted : (inputs : List ℕ) (output : Option ℕ) → All IsColumn inputs → IsOutput inputs output → All (λ column. 0 < column) (used inputs output)
used-counted inputs output columns is = λ k d lt. let here = used-columns inputs output columns is k d lt in omega (arith, here.first)

pub rising-columns : (inputs : List ℕ) → All IsColumn inputs → All IsColumn (rising inputs)
rising-columns inputs columns = All-permutation IsColumn inputs (rising inputs) (rising-permutation inputs) columns

-- where no field is bad, each field that a row is made of is text
pub texts-of-rows : (most : ℕ) (header : Bool) (inputs : List ℕ) (output : Option ℕ) (records : List (List (List ℕ))) → bad_in most header inputs output records ≡ None
    → All (IsText (rising inputs ++ option_to_list output)) (row_records most header records)
texts-of-rows most header inputs output records none k d lt =
    let text = texts_from_no_bad (used inputs output) (headers header + 1) (row_records most header records) none k d lt in
    let out = option_to_list output in
    let all = inputs ++ out in
    let moved = IsPermutation-trans (used inputs output) all (rising inputs ++ out) (IsPermutation-sym all (rising all) (rising-permutation all)) (IsPermutation-append_left out inputs (rising inputs) (rising-permutation inputs)) in
    All-permutation (λ column. IsTrue (is_utf8 (field_of column (get_or (row_records most header records) k d)))) (used inputs output) (rising inputs ++ out) moved text

-- the sheet that is made is one
pub made-sheet : (most : ℕ) (header : Bool) (inputs : List ℕ) (output : Option ℕ) (records : List (List (List ℕ))) → most ≤ MOST_ROWS → AreInputs inputs
    → IsSheet (record { inputs = rising inputs; rows = map (row_of (rising inputs) output) (row_records most header records) })
made-sheet most header inputs output records few are =
    let fewer = row_records-few most header records in
    let rows = length-map (row_records most header records) (row_of (rising inputs) output) in
    let size = length_permutation inputs (rising inputs) (rising-permutation inputs) in
    record {
      some = omega (arith, are.some, size);
      few = omega (arith, are.few, size);
      columns = rising-columns inputs are.columns;
      rises = rising-strict inputs are.distinct;
      full = All-map (λ row. length row.cells ≡ length (rising inputs)) (row_of (rising inputs) output) (row_records most header records) (λ k d lt. length-map (rising inputs) (text_in (get_or (row_records most header records) k d)));
      limited = omega (arith, rows, fewer, few);
    }
