-- The rows of a sheet that can be read, and why another one cannot.
use Rattle.std.proofs.Common.{◌≡◌, ◌∙◌, ◌++◌, ◌∷◌, ◌<◌, ◌≤◌, ◌-◌, [], ℕ, List, All, Bool, true, false, Option, None, Result, Ok, Err, Some, Global, ap, drop, length, nat_lt, option_to_list, refl, subst, sym, arith}
use Rattle.std.specs.Prelude.{IfErr, IfOk, MatchOption, MatchResult, string_bytes}
use Rattle.std.specs.declared.string.String.{String}
use Rattle.std.proofs.lemmas.Bool.Decides.{nat_tests}
use Rattle.std.proofs.lemmas.List.{length-drop, length-map, take_all}
use Rattle.fill_text.specs.Data.{SheetData}
use Rattle.fill_records.specs.Records.{records_of}
use Rattle.fill_records.specs.Texts.{IsText}
use Rattle.fill_sheet.specs.Columns.{rising}
use Rattle.fill_sheet.specs.Sheet.{headers, read_up_to, row_of, row_records}
use Rattle.fill_sheet.specs.declared.error.SheetError.{SheetError}
use Rattle.fill_sheet.specs.declared.error.SheetError.TheVariants.{NotUtf8, TooManyRows}
use Rattle.fill_sheet.proofs.Decisions.{bad_in, sheet_of-bad, sheet_of-many, sheet_of-rows, texts-of-rows}
use Rattle.fill_output.specs.Fields.{Fields}
use Rattle.fill_tree.specs.declared.user.Example.{Example}
use Rattle.fillcsv_columns.specs.Choice.{ChoiceData, choice_data}
use Rattle.fillcsv_columns.specs.declared.choice.Choice.{Choice}
use Rattle.fillcsv_filling.specs.Long.{IsSeen, header_in, rows_in as all_rows_in, sheet_over}
use Rattle.fillcsv_filling.specs.declared.scan.Seen.{Seen}
use Rattle.fill_opening.specs.Opened.{Opened, Passed, Refused}
use Rattle.fill_opening.specs.Stops.{Refuses}
use Rattle.fill_opening.specs.declared.stop.Stop.{Stop}
use Rattle.fill_opening.specs.declared.stop.Stop.TheVariants as stop
use Rattle.fillcsv_options.specs.Words.{AskedData}
use Rattle.fillcsv_run.specs.Lines.{sheet_line}
use Rattle.fillcsv_run.specs.Opening.{examples_in, header_of, most_records, output_of, records_in, rows_in, with_examples, with_rows}
use Rattle.fillcsv_run.specs.Read.{AreReadable, AreRowsIn, sheet_in}

-- ---- what is seen of the records

same_header : (header : Bool) (records : List Fields) → header_in header records ≡ header_of header records
same_header false records = refl
same_header true [] = refl
same_header true (first ∷ rows) = refl

module _ (header : Bool) (bytes : List ℕ) (seen : Seen) (is : IsSeen header most_records (records_of bytes) seen) where
  pub header_seen : seen.header ≡ header_of header (records_in bytes)
  header_seen = is.first ∙ same_header header (records_in bytes)

  pub rows_seen : (inputs : List ℕ) (output : Option ℕ) (n : ℕ) → length (records_of bytes) ≤ most_records → n ≡ seen.records - headers header → length (sheet_in header inputs output bytes).rows ≡ n
  rows_seen inputs output n few count =
      let all : seen.records ≡ length (records_of bytes) = is.count ∙ ap length (take_all most_records (records_of bytes) few) in
      length-map (all_rows_in header bytes) (row_of (rising inputs) output) ∙ length-drop (headers header) (records_of bytes) ∙ ap (λ (k : ℕ). k - headers header) (sym all) ∙ sym count

-- ---- whether the rows can be read

-- where no records are left out, those of the rows are all but the header
pub all_rows : (most : ℕ) (header : Bool) (bytes : List ℕ) → length (records_of bytes) ≤ most → row_records most header (records_of bytes) ≡ all_rows_in header bytes
all_rows most header bytes few = ap (λ (l : List Fields). drop (headers header) l) (take_all most (records_of bytes) few)

many_or_few : (most n : ℕ) → nat_lt most n ≡ false → n ≤ most
many_or_few most n is = grind (arith, nat_tests)

module _ (most : ℕ) (header : Bool) (inputs : List ℕ) (output : Option ℕ) (bytes : List ℕ) where
  whole_sheet : bad_in most header inputs output (records_of bytes) ≡ None → length (records_of bytes) ≤ most → read_up_to most header inputs output bytes ≡ Ok (sheet_in header inputs output bytes)
  unfolding read_up_to
  whole_sheet none few =
      sheet_of-rows most header inputs output (records_of bytes) none few
      ∙ ap (λ (l : List Fields). Ok (sheet_over inputs output l)) (all_rows most header bytes few)

  texts_of : bad_in most header inputs output (records_of bytes) ≡ None → length (records_of bytes) ≤ most → All (IsText (rising inputs ++ option_to_list output)) (all_rows_in header bytes)
  texts_of none few =
      subst (λ (l : List Fields). All (IsText (rising inputs ++ option_to_list output)) l) (all_rows most header bytes few)
      (texts-of-rows most header inputs output (records_of bytes) none)

  pub bad_field : (number column : ℕ) → bad_in most header inputs output (records_of bytes) ≡ Some (number, column) → read_up_to most header inputs output bytes ≡ Err (NotUtf8 number column)
  unfolding read_up_to
  bad_field number column bad = sheet_of-bad most header inputs output (records_of bytes) number column bad

  many_records : bad_in most header inputs output (records_of bytes) ≡ None → most < length (records_of bytes) → read_up_to most header inputs output bytes ≡ Err (TooManyRows most)
  unfolding read_up_to
  many_records none many = sheet_of-many most header inputs output (records_of bytes) none many

  pub too_many : (more : Bool) → bad_in most header inputs output (records_of bytes) ≡ None → more ≡ nat_lt most (length (records_of bytes)) → more ≡ true
      → read_up_to most header inputs output bytes ≡ Err (TooManyRows most)
  too_many more none is many = let test : nat_lt most (length (records_of bytes)) ≡ true = cc in many_records none (grind (arith, nat_tests))

  few_of : (more : Bool) → more ≡ nat_lt most (length (records_of bytes)) → more ≡ false → length (records_of bytes) ≤ most
  few_of more is few = let test : nat_lt most (length (records_of bytes)) ≡ false = cc in many_or_few most (length (records_of bytes)) test

readable_up_to : (most : ℕ) (header : Bool) (inputs : List ℕ) (output : Option ℕ) (bytes : List ℕ) → most ≡ most_records → bad_in most header inputs output (records_of bytes) ≡ None → length (records_of bytes) ≤ most
    → AreReadable header inputs output bytes
readable_up_to most header inputs output bytes same none few = record {
  whole = subst (λ (m : ℕ). read_up_to m header inputs output bytes ≡ Ok (sheet_in header inputs output bytes)) same (whole_sheet most header inputs output bytes none few);
  text = texts_of most header inputs output bytes none few;
  few = subst (λ (m : ℕ). length (records_of bytes) ≤ m) same few;
}

-- no field is bad, and the records are few
pub readable : (header : Bool) (inputs : List ℕ) (output : Option ℕ) (bytes : List ℕ) (more : Bool) → bad_in most_records header inputs output (records_of bytes) ≡ None
    → more ≡ nat_lt most_records (length (records_of bytes)) → more ≡ false → AreReadable header inputs output bytes
readable header inputs output bytes more none is few = readable_up_to most_records header inputs output bytes refl none (few_of most_records header inputs output bytes more is few)

-- no field is bad, and what is told of the number of records decides
pub counted_rows : (header : Bool) (inputs : List ℕ) (output : Option ℕ) (bytes : List ℕ) (more : Bool) (found : Option SheetError) → bad_in most_records header inputs output (records_of bytes) ≡ None
    → more ≡ nat_lt most_records (length (records_of bytes)) → MatchOption found (more ≡ false) (λ e. (more ≡ true) × (e ≡ TooManyRows most_records))
    → MatchOption found (AreReadable header inputs output bytes) (λ e. read_up_to most_records header inputs output bytes ≡ Err e)
counted_rows header inputs output bytes more None none is told = readable header inputs output bytes more none is told
counted_rows header inputs output bytes more (Some e) none is told =
    subst (λ (x : SheetError). read_up_to most_records header inputs output bytes ≡ Err x) (sym told.1) (too_many most_records header inputs output bytes more none is told.0)

-- where the texts for rows are refused, so is the sheet with them
pub examples_refused : (bytes : List ℕ) (choice : ChoiceData) (sheet : SheetData) (o : Opened (List ℕ) (List Example)) (why : Stop (List ℕ))
    → Refuses o why → Refuses (with_examples bytes choice sheet o) why
examples_refused bytes choice sheet o (stop.Unread name) is = absurd is
examples_refused bytes choice sheet o (stop.Refused line) is = ap (with_examples bytes choice sheet) is
examples_refused bytes choice sheet o stop.NoMemory is = tt

module _ (asked : AskedData) (bytes : List ℕ) (c : Choice) where
  abbrev output : Option ℕ
  output = output_of asked.replace c.to

  abbrev sheet : SheetData
  sheet = sheet_in asked.header c.from.items output bytes

  rows_examples : (n : ℕ) (result : Result (List Example) (Stop (List ℕ))) → AreReadable asked.header c.from.items output bytes → length sheet.rows ≡ n
      → IfOk result (λ typed. examples_in asked n ≡ Passed typed) → IfErr result (Refuses (examples_in asked n)) → AreRowsIn asked bytes c result
  rows_examples n (Ok typed) readable count ready stopped = (
    readable,
    ap (with_rows asked bytes (choice_data c)) readable.whole
        ∙ ap (λ (n : ℕ). with_examples bytes (choice_data c) sheet (examples_in asked n)) count
        ∙ ap (with_examples bytes (choice_data c) sheet) ready,
  )
  rows_examples n (Err why) readable count ready stopped =
      subst (λ (s : Result SheetData SheetError). Refuses (with_rows asked bytes (choice_data c) s) why) (sym readable.whole)
      (examples_refused bytes (choice_data c) sheet (examples_in asked (length sheet.rows)) why (subst (λ (n : ℕ). Refuses (examples_in asked n) why) (sym count) stopped))

  -- the rows can be read, and the texts for them are there or refused
  pub rows_of_sheet : (seen : Seen) → IsSeen asked.header most_records (records_of bytes) seen → (n : ℕ) (result : Result (List Example) (Stop (List ℕ)))
      → AreReadable asked.header c.from.items output bytes → n ≡ seen.records - headers asked.header
      → IfOk result (λ typed. examples_in asked n ≡ Passed typed) → IfErr result (Refuses (examples_in asked n)) → AreRowsIn asked bytes c result
  rows_of_sheet seen is n result readable count ready stopped =
      rows_examples n result readable (rows_seen asked.header bytes seen is c.from.items output n readable.few count) ready stopped

  -- the rows cannot be read, and the line says why
  pub sheet_refused : {E : Type 0} (e : SheetError) (line : Result (String Global) E) (why : Stop (List ℕ)) → read_up_to most_records asked.header c.from.items output bytes ≡ Err e
      → IfOk line (λ l. string_bytes l ≡ sheet_line asked.file e) → MatchResult line (λ text. why ≡ stop.Refused (string_bytes text)) (λ _. why ≡ stop.NoMemory)
      → AreRowsIn asked bytes c (Err why)
  sheet_refused e (Ok text) why is says same =
      subst (λ (w : Stop (List ℕ)). Refuses (rows_in asked bytes (choice_data c)) w) (sym same)
      (ap (with_rows asked bytes (choice_data c)) is ∙ ap (λ (l : List ℕ). Refused l) (sym says))
  sheet_refused e (Err none) why is says same = subst (λ (w : Stop (List ℕ)). Refuses (rows_in asked bytes (choice_data c)) w) (sym same) tt
