-- The tables of a rule and their keys, as lines of its file.
use Rattle.std.specs.Prelude.{ℕ, ◌+◌, List, [], ◌∷◌, ◌++◌, map, if◌then◌else◌, Option, None, Some, Result, Ok, Err, codes}
use Rattle.std.specs.Fmt.{decimal}
use Rattle.std.specs.Str.{is_utf8}
use Rattle.fill_records.specs.Records.{field_of}
use Rattle.fill_numbers.specs.Columns.{columns_in, has_form, is_word}
use Rattle.fill_apply.specs.Saved.{is_shown}
use Rattle.fillcsv_options.specs.Words.{LookupData, Key, Table}

-- the line of a table, by its name and the path of its file, or of a key, by the name of its table
abbrev pub lookup_line : LookupData → List (List ℕ)
lookup_line (Table name file) = codes "table" ∷ name ∷ file ∷ []
lookup_line (Key table columns) = codes "key" ∷ table ∷ map decimal columns

-- a field that is UTF-8
abbrev pub text_in : List ℕ → Option (List ℕ)
text_in field = if is_utf8 field then Some field else None

-- the table of a line, where both fields are there
abbrev pub table_of : Option (List ℕ) → Option (List ℕ) → Option LookupData
table_of (Some name) (Some file) = Some (Table name file)
table_of (Some name) None = None
table_of None file = None

abbrev pub table_in : List (List ℕ) → Option LookupData
table_in line = if has_form (codes "table") 3 line then table_of (text_in (field_of 2 line)) (text_in (field_of 3 line)) else None

-- the key of a line: one to three columns, none of them twice
abbrev pub key_of : Option (List ℕ) → Option (List ℕ) → Option LookupData
key_of (Some table) (Some columns) = Some (Key table columns)
key_of (Some table) None = None
key_of None columns = None

abbrev pub key_in : List (List ℕ) → Option LookupData
key_in line = if is_word (codes "key") line then key_of (text_in (field_of 2 line)) (columns_in 2 3 4294967295 line) else None

-- the table or the key that a line says
abbrev pub lookup_in : List (List ℕ) → Option LookupData
lookup_in line = if is_word (codes "table") line then table_in line else key_in line

-- what the line of a number gives, which the rest is made of; without it the line is the first bad one
abbrev pub from_line : {A B : Type 0} → ℕ → Option A → (A → Result B ℕ) → Result B ℕ
from_line number None rest = Err number
from_line number (Some x) rest = rest x

-- these, where no line is left: else that of this number is the first bad one
abbrev pub at_end : {A : Type 0} → ℕ → A → List (List (List ℕ)) → Result A ℕ
at_end number found [] = Ok found
at_end number found (line ∷ more) = Err number

-- the tables and keys before, and those that these lines say, the first of which has this number. The last line, and no other
-- one, shows a program
abbrev pub lookups_from : ℕ → List LookupData → List (List (List ℕ)) → Result (List LookupData) ℕ
lookups_from number before [] = Err number
lookups_from number before (line ∷ more) =
    if is_shown line then at_end (number + 1) before more else from_line number (lookup_in line) (λ lookup. lookups_from (number + 1) (before ++ lookup ∷ []) more)
