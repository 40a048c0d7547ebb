-- Long sheets: what the bytes of a file are as a sheet.
use Rattle.std.specs.Prelude.{◌≡◌, ◌==◌, ◌&&◌, if◌then◌else◌, ℕ, ◌≤◌, List, [], ◌∷◌, ◌++◌, All, Bool, true, false, IfSome, Option, None, Some, drop, length, map, nat_lt, option_to_list, take}
use Rattle.std.specs.Option.{ForSome}
use Rattle.fill_text.specs.Data.{SheetData, TableData}
use Rattle.fill_records.specs.Records.{records_of}
use Rattle.fill_records.specs.Texts.{IsText}
use Rattle.fill_sheet.specs.Columns.{AreInputs, IsColumn, rising}
use Rattle.fill_sheet.specs.Sheet.{headers, row_of}
use Rattle.fill_tree.specs.Grammar.{AreSettings}
use Rattle.fill_tree.specs.declared.user.Example.{Example}
use Rattle.fill_tree.specs.declared.user.Settings.{Settings}
use Rattle.fillcsv_rows.specs.declared.form.Form.{Form}
use Rattle.fillcsv_blocks.specs.Merged.{IsReadable, RowsRise}
use Rattle.fill_space.specs.declared.ground.Ground.{Ground}
use Rattle.fill_output.specs.Fields.{Fields}
use Rattle.fillcsv_columns.specs.Columns.{width}
use Rattle.fillcsv_blocks.specs.declared.numbered.Numbered.{Numbered}
use Rattle.fillcsv_filling.specs.Reading.{AreOf, most_rows, numbered}
use Rattle.fillcsv_filling.specs.declared.scan.Seen.{Seen}
use Rattle.fillcsv_filling.specs.declared.sheet.LongSheet.{LongSheet}
use Rattle.fillcsv_filling.specs.declared.reading.TheConstants.{MOST_LONG_RECORDS}

-- the records of the rows: all of the file but the header, where there is one
abbrev pub rows_in : Bool → List ℕ → List Fields
rows_in header bytes = drop (headers header) (records_of bytes)

-- the sheet of these rows
abbrev pub sheet_over : List ℕ → Option ℕ → List Fields → SheetData
sheet_over inputs output rows = record { inputs = rising inputs; rows = map (row_of (rising inputs) output) rows }

-- a long sheet and the bytes of its file
pub record LongData : Type 0 where
  pub bytes : List ℕ
  pub header : Bool
  pub inputs : List ℕ
  pub output : Option ℕ
  pub typed : List Example
  pub settings : Settings
  pub form : Form
  pub head : List ℕ

abbrev pub long_of : List ℕ → LongSheet → LongData
long_of bytes s = record {
  bytes = bytes;
  header = s.header;
  inputs = s.inputs.now;
  output = s.output;
  typed = s.typed.now;
  settings = s.settings;
  form = s.form;
  head = s.head.now;
}

abbrev pub rows_of : LongData → List Fields
rows_of s = rows_in s.header s.bytes

-- what programs are learned over: all rows of the sheet, and these tables
abbrev pub ground_of : LongData → List TableData → Ground
ground_of s tables = record { settings = s.settings; sheet = sheet_over s.inputs s.output (rows_of s); tables = tables }

-- the columns of a sheet can be filled
pub record IsSet (s : LongSheet) : Type 0 where
  pub settings : AreSettings s.settings
  pub inputs : AreInputs s.inputs.now
  pub output : ForSome s.output IsColumn
  pub column : 1 ≤ s.form.column
  pub states : IfSome s.form.states (λ column. 1 ≤ column)

-- rows that a block can have, whatever the file holds now: their fields are UTF-8 where they are read, their numbers rise, and
-- they are no more than this many
pub record AreFit (s : LongSheet) (most : ℕ) (these : List Numbered) : Type 0 where
  pub text : All (IsReadable (rising s.inputs.now) s.output) these
  pub rise : RowsRise these
  pub few : length these ≤ most

-- a sheet that can be filled: its columns can be, all fields that are read are UTF-8, and its records can be counted
pub record IsLong (s : LongData) : Type 0 where
  pub settings : AreSettings s.settings
  pub inputs : AreInputs s.inputs
  pub output : ForSome s.output IsColumn
  pub text : All (IsText (rising s.inputs ++ option_to_list s.output)) (rows_of s)
  pub few : length (records_of s.bytes) ≤ MOST_LONG_RECORDS
  pub column : 1 ≤ s.form.column
  pub states : IfSome s.form.states (λ column. 1 ≤ column)

-- some rows of the sheet, in their order, no more than a block has
pub record AreRows (s : LongData) (these : List Numbered) : Type 0 where
  pub rows : AreOf these (numbered 1 (rows_of s))
  pub few : length these ≤ most_rows

-- the first record, where it names the columns
abbrev pub header_in : Bool → List Fields → Option Fields
header_in false records = None
header_in true [] = None
header_in true (header ∷ rows) = Some header

-- the header with the record after `n` of them: the first record is the header, where there is one
abbrev pub header_with : Bool → ℕ → Fields → Option Fields → Option Fields
header_with header n fields before = if header && (n == 0) then Some fields else before

-- what is seen of records, of which the first ones are looked at, `most` at most
pub record IsSeen (header : Bool) (most : ℕ) (records : List Fields) (seen : Seen) : Type 0 where
  pub first : seen.header ≡ header_in header (take most records)
  pub longest : seen.width ≡ width (take most records)
  pub count : seen.records ≡ length (take most records)
  pub others : seen.more ≡ nat_lt most (length records)
