-- The lines of a session file: their words, and what their fields spell. A line is a list of fields, the first its word.
use Rattle.std.specs.Prelude.{ℕ, ◌==◌, List, length, Option, Some, None, Bool, if◌then◌else◌, codes, option_map}
use Rattle.std.specs.List.{list_all}
use Rattle.std.specs.Str.{bytes_eq, chars, is_utf8}
use Rattle.fill_records.specs.Records.{field_of}
use Rattle.fill_sheet.specs.declared.columns.TheConstants.{LAST_COLUMN, MOST_INPUTS}
use Rattle.fill_numbers.specs.Columns.{columns_in, has_form, is_word, number_between}
use Rattle.fill_tree.specs.declared.user.Constants.{Constants}
use Rattle.fill_tree.specs.declared.user.Constants.TheVariants.{Any, Separators}
use Rattle.fill_script.specs.declared.script.TableLine.TheVariants.{Table, Key}
use Rattle.fill_script.specs.declared.statement.Statement.{Statement}
use Rattle.fill_script.specs.declared.statement.Statement.TheVariants as says

-- the line that ends the opening section
abbrev pub is_begin : List (List ℕ) → Bool
is_begin line = has_form (codes "begin") 1 line

-- a field that a name may be: it is not empty
abbrev pub name_in : List ℕ → Option (List ℕ)
name_in bytes = if length bytes == 0 then None else Some (chars bytes)

-- each field of a line is UTF-8
abbrev pub is_text : List (List ℕ) → Bool
is_text line = list_all is_utf8 line

-- what each line of the opening section says, where it has the form of its word
abbrev pub sheet_in : List (List ℕ) → Option Statement
sheet_in line = if length line == 2 then option_map says.Sheet (name_in (field_of 2 line)) else None

abbrev pub header_in : List (List ℕ) → Option Statement
header_in line = if length line == 1 then Some says.Header else None

abbrev pub inputs_in : List (List ℕ) → Option Statement
inputs_in line = option_map says.Inputs (columns_in 1 MOST_INPUTS LAST_COLUMN line)

abbrev pub output_in : List (List ℕ) → Option Statement
output_in line = if length line == 2 then option_map says.Output (number_between 1 LAST_COLUMN (field_of 2 line)) else None

abbrev pub table_from : ℕ → Option (List ℕ) → Option (List ℕ) → Option Statement
table_from number (Some name) (Some file) = Some (says.Lookup (Table number name file))
table_from number (Some name) None = None
table_from number None file = None

abbrev pub table_in : ℕ → List (List ℕ) → Option Statement
table_in number line = if length line == 3 then table_from number (name_in (field_of 2 line)) (name_in (field_of 3 line)) else None

abbrev pub key_from : ℕ → Option (List ℕ) → Option (List ℕ) → Option Statement
key_from number (Some name) (Some columns) = Some (says.Lookup (Key number name columns))
key_from number (Some name) None = None
key_from number None columns = None

abbrev pub key_in : ℕ → List (List ℕ) → Option Statement
key_in number line = key_from number (name_in (field_of 2 line)) (columns_in 2 3 4294967295 line)

abbrev pub depth_in : List (List ℕ) → Option Statement
depth_in line = if length line == 2 then option_map says.Depth (number_between 0 3 (field_of 2 line)) else None

abbrev pub constants_of : List ℕ → Option Constants
constants_of bytes = if bytes_eq bytes (codes "any") then Some Any else if bytes_eq bytes (codes "separators") then Some Separators else None

abbrev pub constants_in : List (List ℕ) → Option Statement
constants_in line = if length line == 2 then option_map says.Constants (constants_of (field_of 2 line)) else None

abbrev pub profile_in : List (List ℕ) → Option Statement
profile_in line = if length line == 2 then option_map says.Profile (number_between 1 2 (field_of 2 line)) else None

-- what the line of a number says in the opening section
abbrev pub statement_in : ℕ → List (List ℕ) → Option Statement
statement_in number line =
    if is_word (codes "sheet") line then sheet_in line
    else if is_word (codes "header") line then header_in line
    else if is_word (codes "inputs") line then inputs_in line
    else if is_word (codes "output") line then output_in line
    else if is_word (codes "table") line then table_in number line
    else if is_word (codes "key") line then key_in number line
    else if is_word (codes "depth") line then depth_in line
    else if is_word (codes "constants") line then constants_in line
    else if is_word (codes "profile") line then profile_in line
    else None
