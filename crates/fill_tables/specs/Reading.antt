-- What a table is of a CSV file's bytes: its width and rows, or the one refusal.
use Rattle.std.specs.Prelude.{ℕ, min, max, List, [], ◌∷◌, length, take, map, Bool, true, false, nat_lt, Option, Some, None, Result, Ok, Err}
use Rattle.std.specs.List.{range_with_len}
use Rattle.fill_text.specs.Data.{TableData}
use Rattle.fill_records.specs.Records.{records_of}
use Rattle.fill_records.specs.Texts.{first_bad, text_in}
use Rattle.fill_tables.specs.declared.error.TableError.{TableError}
use Rattle.fill_tables.specs.declared.reading.TheConstants.{MOST_FIELDS, MOST_TABLE_ROWS}
use Rattle.fill_tables.specs.declared.error.TableError.TheVariants.{TooManyRows, NotUtf8}

-- how many fields of a record are kept: those past the last are passed over
abbrev pub kept : List (List ℕ) → ℕ
kept fields = min (length fields) MOST_FIELDS

-- the columns from the first to this one
abbrev pub columns_to : ℕ → List ℕ
columns_to width = range_with_len 1 width

-- the largest number of kept fields in a record
abbrev pub width_of : List (List (List ℕ)) → ℕ
width_of [] = 0
width_of (fields ∷ more) = max (kept fields) (width_of more)

-- the columns of a table of these records
abbrev pub columns_of : List (List (List ℕ)) → List ℕ
columns_of records = columns_to (width_of records)

-- the row of a record in these columns
abbrev pub row_of : List ℕ → List (List ℕ) → List (List ℕ)
row_of columns fields = map (text_in fields) columns

-- a bad field refuses the table, and else more records than a table may have do
abbrev pub decided : Option (ℕ × ℕ) → Bool → TableData → Result TableData TableError
decided (Some bad) more table = Err (NotUtf8 bad.0 bad.1)
decided None true table = Err (TooManyRows MOST_TABLE_ROWS)
decided None false table = Ok table

-- the table of this name whose rows are these records, without a key
abbrev pub table_with : List ℕ → List (List (List ℕ)) → TableData
table_with name records = record { name = name; width = width_of records; rows = map (row_of (columns_of records)) records; keys = [] }

-- the table of this name and these records, of which as many are looked at as a table may have
abbrev pub table_of : List ℕ → List (List (List ℕ)) → Result TableData TableError
table_of name records =
    decided (first_bad (columns_of (take MOST_TABLE_ROWS records)) 1 (take MOST_TABLE_ROWS records)) (nat_lt MOST_TABLE_ROWS (length records)) (table_with name (take MOST_TABLE_ROWS records))

-- the table of this name and a file's bytes
unfoldable pub read_table : List ℕ → List ℕ → Result TableData TableError
read_table name bytes = table_of name (records_of bytes)
