-- Fields as texts, and fields that are none.
use Rattle.std.specs.Prelude.{ℕ, ◌+◌, List, [], ◌∷◌, All, IsTrue, not, Option, Some, None}
use Rattle.std.specs.List.{find}
use Rattle.std.specs.Str.{chars, is_utf8}
use Rattle.fill_records.specs.Records.{field_of}

-- the text of a record's field, the empty one where the record ends before it
abbrev pub text_in : List (List ℕ) → ℕ → List ℕ
text_in fields column = chars (field_of column fields)

-- the first of these columns whose field is not UTF-8
abbrev pub bad_column : List ℕ → List (List ℕ) → Option ℕ
bad_column columns fields = find (λ column. not (is_utf8 (field_of column fields))) columns

-- each field in these columns is UTF-8
abbrev pub IsText : List ℕ → List (List ℕ) → Type 0
IsText columns fields = All (λ column. IsTrue (is_utf8 (field_of column fields))) columns

-- the number of a record and its bad column, where it has one, or else what a later record has
abbrev pub or_later : ℕ → Option ℕ → Option (ℕ × ℕ) → Option (ℕ × ℕ)
or_later number (Some column) later = Some (number, column)
or_later number None later = later

-- the number and the column of the first field in these columns that is not UTF-8, in records that count from a number
abbrev pub first_bad : List ℕ → ℕ → List (List (List ℕ)) → Option (ℕ × ℕ)
first_bad columns number [] = None
first_bad columns number (fields ∷ more) = or_later number (bad_column columns fields) (first_bad columns (number + 1) more)
