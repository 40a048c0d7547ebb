-- Which column of a sheet a word names.
use Rattle.std.specs.Prelude.{ℕ, ◌+◌, ◌&&◌, List, [], ◌∷◌, length, Option, None, Some, Result, Ok, Err, if◌then◌else◌, nat_le, min, max}
use Rattle.std.specs.Str.{bytes_eq}
use Rattle.fill_sheet.specs.declared.columns.TheConstants.{LAST_COLUMN}
use Rattle.fill_numbers.specs.Number.{number_in}
use Rattle.fillcsv_columns.specs.declared.error.ColumnError.{ColumnError}
use Rattle.fillcsv_columns.specs.declared.error.ColumnError.TheVariants as error

-- the number of fields of the longest record
abbrev pub width : List (List (List ℕ)) → ℕ
width [] = 0
width (fields ∷ more) = max (length fields) (width more)

-- the names of the columns: the fields of the header, none without one
abbrev pub names_of : Option (List (List ℕ)) → List (List ℕ)
names_of None = []
names_of (Some header) = header

-- the columns of this name, where the first one has the number n
abbrev pub named : List ℕ → ℕ → List (List ℕ) → List ℕ
named word n [] = []
named word n (name ∷ more) = if bytes_eq name word then n ∷ named word (n + 1) more else named word (n + 1) more

-- a column from the first to the last one that a word can name
abbrev pub within : ℕ → ℕ → Result ℕ ColumnError
within last column = if nat_le 1 column && nat_le column (min last LAST_COLUMN) then Ok column else Err error.Missing

-- the column of a number
abbrev pub of_number : ℕ → Option ℕ → Result ℕ ColumnError
of_number width None = Err error.Missing
of_number width (Some column) = within width column

-- the column whose number this word is, in a sheet of this many columns
abbrev pub numbered : ℕ → List ℕ → Result ℕ ColumnError
numbered width word = of_number width (number_in word)

-- the column of a word that is the name of these: where there is none, the word is a number
abbrev pub column_of : List ℕ → ℕ → List ℕ → Result ℕ ColumnError
column_of [] width word = numbered width word
column_of (column ∷ []) width word = within LAST_COLUMN column
column_of (column ∷ other ∷ more) width word = Err error.Ambiguous

-- the column of a word in a sheet with these names and this many columns
abbrev pub column_in : List (List ℕ) → ℕ → List ℕ → Result ℕ ColumnError
column_in names width word = column_of (named word 1 names) width word
