-- What a sheet is of a CSV file's bytes: its rows, or the one refusal.
use Rattle.std.specs.Prelude.{◌≡◌, ℕ, ◌+◌, ◌<◌, ◌≤◌, List, [], ◌∷◌, length, take, drop, map, All, Bool, true, false, if◌then◌else◌, nat_lt, Option, Some, None, Result, Ok, Err, option_and_then}
use Rattle.std.specs.List.Sorted.{IsStrictlyIncreasing}
use Rattle.fill_text.specs.Data.{RowData, SheetData, nth}
use Rattle.fill_records.specs.Records.{records_of}
use Rattle.fill_records.specs.Texts.{first_bad, text_in}
use Rattle.fill_sheet.specs.Columns.{IsColumn, rising, used}
use Rattle.fill_sheet.specs.declared.columns.TheConstants.{MOST_INPUTS}
use Rattle.fill_sheet.specs.declared.error.SheetError.{SheetError}
use Rattle.fill_sheet.specs.declared.error.SheetError.TheVariants.{TooManyRows, NotUtf8}
use Rattle.fill_sheet.specs.declared.sheet.TheConstants.{MOST_RECORDS, MOST_ROWS}

-- a text, where it isn't empty
abbrev pub unless_empty : List ℕ → Option (List ℕ)
unless_empty [] = None
unless_empty (c ∷ more) = Some (c ∷ more)

-- the text that a record gives for its row in the output column
abbrev pub given_in : Option ℕ → List (List ℕ) → Option (List ℕ)
given_in output fields = option_and_then (λ column. unless_empty (text_in fields column)) output

-- the row of a record
abbrev pub row_of : List ℕ → Option ℕ → List (List ℕ) → RowData
row_of inputs output fields = record { cells = map (text_in fields) inputs; given = given_in output fields }

-- how many records stand before the rows: the header, where there is one
abbrev pub headers : Bool → ℕ
headers header = if header then 1 else 0

-- the records of the rows: those among the first ones, as many as a sheet may have, without the header
abbrev pub row_records : ℕ → Bool → List (List (List ℕ)) → List (List (List ℕ))
row_records most header records = drop (headers header) (take most records)

-- a bad field refuses the sheet, and else more records than it may have do
abbrev pub decided : ℕ → Option (ℕ × ℕ) → Bool → SheetData → Result SheetData SheetError
decided most (Some bad) more sheet = Err (NotUtf8 bad.0 bad.1)
decided most None true sheet = Err (TooManyRows most)
decided most None false sheet = Ok sheet

-- the sheet of these records, of which there may be as many as the number says
abbrev pub sheet_of : ℕ → Bool → List ℕ → Option ℕ → List (List (List ℕ)) → Result SheetData SheetError
sheet_of most header inputs output records =
    decided most (first_bad (used inputs output) (headers header + 1) (row_records most header records)) (nat_lt most (length records))
    (record { inputs = rising inputs; rows = map (row_of (rising inputs) output) (row_records most header records) })

-- the sheet of a file's bytes, of at most this number of records, with a header or without, the input columns in any order,
-- and the output column
unfoldable pub read_up_to : ℕ → Bool → List ℕ → Option ℕ → List ℕ → Result SheetData SheetError
read_up_to most header inputs output bytes = sheet_of most header inputs output (records_of bytes)

-- a sheet of no more records than it may have where nothing else is said
abbrev pub read_sheet : Bool → List ℕ → Option ℕ → List ℕ → Result SheetData SheetError
read_sheet header inputs output bytes = read_up_to MOST_RECORDS header inputs output bytes

-- what is true of each sheet
pub record IsSheet (sheet : SheetData) : Type 0 where
  pub some : 0 < length sheet.inputs
  pub few : length sheet.inputs ≤ MOST_INPUTS
  pub columns : All IsColumn sheet.inputs
  pub rises : IsStrictlyIncreasing sheet.inputs
  pub full : All (λ row. length row.cells ≡ length sheet.inputs) sheet.rows
  pub limited : length sheet.rows ≤ MOST_ROWS

-- the sheet whose one row has these cells in the input columns, and no given text
abbrev pub row_sheet : List ℕ → List (List ℕ) → SheetData
row_sheet inputs cells = record { inputs = inputs; rows = record { cells = cells; given = None } ∷ [] }

-- the text that a row's output cell gives
abbrev pub given_at : SheetData → ℕ → Option (List ℕ)
given_at sheet row = option_and_then (λ r. r.given) (nth sheet.rows row)
