-- Records with another field in one column.
use Rattle.std.specs.Prelude.{ℕ, ◌-◌, List, [], ◌++◌, length, replicate, slice_set}

-- the fields of a record, with empty ones up to a column where it is too short
abbrev pub padded : ℕ → List (List ℕ) → List (List ℕ)
padded column fields = fields ++ replicate (column - length fields) []

-- a record with this field in a column, which counts from 1; each other field is as it was
abbrev pub with_field : ℕ → List ℕ → List (List ℕ) → List (List ℕ)
with_field column field fields = slice_set (padded column fields) (column - 1) field
