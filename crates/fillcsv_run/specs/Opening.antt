-- From the files of a sheet and its tables to what is learned from: the steps, and what each one may stop at.
use Rattle.fill_edge.specs.declared.outside.TheConstants.{LAST_PLACE}
use Rattle.std.specs.Prelude.{ℕ, ◌+◌, ◌-◌, ◌&&◌, List, [], ◌∷◌, length, map, nat_le, take, Bool, true, false, if◌then◌else◌, nat_lt, Option, None, Some, Result, Ok, Err}
use Rattle.std.specs.Str.{chars}
use Rattle.fill_text.specs.Data.{SheetData, TableData}
use Rattle.fill_records.specs.Records.{records_of}
use Rattle.fill_sheet.specs.Sheet.{headers, read_up_to}
use Rattle.fill_sheet.specs.declared.error.SheetError.{SheetError}
use Rattle.fill_opening.specs.Opened.{Held, Opened, Opening, Unread, Refused, Passed, at_once, and_then}
use Rattle.fillcsv_columns.specs.Columns.{names_of, width}
use Rattle.fillcsv_columns.specs.Choice.{ChoiceData, Refusal, choice_after, choice_in}
use Rattle.fill_tree.specs.declared.user.Example.{Example}
use Rattle.fillcsv_options.specs.Words.{AskedData, New, TargetData, There, TypedData}
use Rattle.fillcsv_filling.specs.declared.reading.TheConstants.{MOST_LONG_RECORDS}
use Rattle.fillcsv_tables.specs.Files.{file_opens}
use Rattle.fill_stream.specs.Fronts.{is_marked}
use Rattle.fillcsv_run.specs.Lines.{choice_line, row_line, sheet_line}
use Rattle.fillcsv_tables.specs.Tables.{lookups_open}

-- a sheet that was read: its bytes, the columns that were chosen in it, its rows in these columns, the texts that are
-- typed for rows, and the tables in which rules may look up
pub record SheetRead : Type 0 where
  pub bytes : List ℕ
  pub choice : ChoiceData
  pub sheet : SheetData
  pub typed : List Example
  pub tables : List TableData

-- how many records a sheet may have, the header among them
abbrev pub most_records : ℕ
most_records = MOST_LONG_RECORDS

-- the records that are read
abbrev pub records_in : List ℕ → List (List (List ℕ))
records_in bytes = take most_records (records_of bytes)

-- the record that names the columns, where there is one
abbrev pub header_of : Bool → List (List (List ℕ)) → Option (List (List ℕ))
header_of false records = None
header_of true [] = None
header_of true (header ∷ rows) = Some header

-- the columns that words choose where this one is filled
abbrev pub choice_for : TargetData → List (List ℕ) → ℕ → List (List ℕ) → Result ChoiceData Refusal
choice_for (There column) names width from = choice_in names width column from
choice_for (New name) names width from = choice_after names width name from

-- the columns that words choose among those of the records
abbrev pub choice_of : AskedData → List (List (List ℕ)) → Result ChoiceData Refusal
choice_of asked records = choice_for asked.to (names_of (header_of asked.header records)) (width records) asked.from

-- ---- examples that are typed

-- a row as a spreadsheet shows it, where `above` records stand above the rows, is one of `rows`
abbrev pub is_there : ℕ → ℕ → ℕ → Bool
is_there above rows row = nat_lt above row && nat_le row (above + rows)

-- the row of the first example whose row is not there
abbrev pub missing_row : ℕ → ℕ → List TypedData → Option ℕ
missing_row above rows [] = None
missing_row above rows (e ∷ more) = if is_there above rows e.row then missing_row above rows more else Some e.row

-- an example by the number of its row among the rows, and the characters of its text
abbrev pub example_of : ℕ → TypedData → Example
example_of above e = record { row = e.row - above; text = chars e.text }

abbrev pub with_missing : AskedData → Option ℕ → Opened (List ℕ) (List Example)
with_missing asked None = Passed (map (example_of (headers asked.header)) asked.examples)
with_missing asked (Some row) = Refused (row_line asked.file row)

-- the texts that the words give for rows of a sheet of this many, where each row is there
abbrev pub examples_in : AskedData → ℕ → Opened (List ℕ) (List Example)
examples_in asked rows = with_missing asked (missing_row (headers asked.header) rows asked.examples)

-- ---- the sheet

-- the column whose cells are examples: that which is filled, if its cells are not to be replaced
abbrev pub output_of : Bool → ℕ → Option ℕ
output_of false column = Some column
output_of true column = None

abbrev pub with_examples : List ℕ → ChoiceData → SheetData → Opened (List ℕ) (List Example) → Opened (List ℕ) SheetRead
with_examples bytes choice sheet (Unread name) = Unread name
with_examples bytes choice sheet (Refused line) = Refused line
with_examples bytes choice sheet (Passed typed) = Passed (record { bytes = bytes; choice = choice; sheet = sheet; typed = typed; tables = [] })

-- the rows in the chosen columns with the texts for them, or why there are none
abbrev pub with_rows : AskedData → List ℕ → ChoiceData → Result SheetData SheetError → Opened (List ℕ) SheetRead
with_rows asked bytes choice (Ok sheet) = with_examples bytes choice sheet (examples_in asked (length sheet.rows))
with_rows asked bytes choice (Err e) = Refused (sheet_line asked.file e)

abbrev pub rows_in : AskedData → List ℕ → ChoiceData → Opened (List ℕ) SheetRead
rows_in asked bytes choice = with_rows asked bytes choice (read_up_to most_records asked.header choice.from (output_of asked.replace choice.to) bytes)

abbrev pub with_choice : AskedData → List ℕ → Result ChoiceData Refusal → Opened (List ℕ) SheetRead
with_choice asked bytes (Ok choice) = rows_in asked bytes choice
with_choice asked bytes (Err e) = Refused (choice_line asked.file (names_of (header_of asked.header (records_in bytes))) e)

-- the columns are chosen, and then the rows are read
abbrev pub sheet_in : AskedData → List ℕ → Opened (List ℕ) SheetRead
sheet_in asked bytes = with_choice asked bytes (choice_of asked (records_in bytes))

-- a sheet with tables
abbrev pub with_tables : SheetRead → List TableData → SheetRead
with_tables read tables = record read { tables = tables }

-- a sheet, and then its tables and their keys
abbrev pub from_sheet : AskedData → Held → SheetRead → Opening (List ℕ) SheetRead
from_sheet asked held read = and_then (lookups_open held [] asked.lookups) (λ tables. at_once (Passed (with_tables read tables)))

-- the bytes of a sheet's file are checked, and then come its tables
abbrev pub from_bytes : AskedData → Held → List ℕ → Opening (List ℕ) SheetRead
from_bytes asked held bytes = and_then (at_once (sheet_in asked bytes)) (from_sheet asked held)

-- the file of a sheet is read, which may have as many bytes as can be read
abbrev pub sheet_file_opens : Held → List ℕ → Opening (List ℕ) (List ℕ)
sheet_file_opens held name = file_opens LAST_PLACE held name

-- the sheet's file is read and checked, and then those of its tables
abbrev pub sheet_opens : AskedData → Held → Opening (List ℕ) SheetRead
sheet_opens asked held = and_then (sheet_file_opens held asked.file) (from_bytes asked held)

-- the byte order mark
abbrev pub mark : List ℕ
mark = 239 ∷ 187 ∷ 191 ∷ []

-- the mark, or nothing
abbrev pub mark_if : Bool → List ℕ
mark_if true = mark
mark_if false = []

-- the mark where it stands in front of the bytes
abbrev pub mark_of : List ℕ → List ℕ
mark_of bytes = mark_if (is_marked bytes)
