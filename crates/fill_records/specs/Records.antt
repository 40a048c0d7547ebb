-- The records of a CSV file.
use Rattle.std.specs.Prelude.{ℕ, ◌-◌, List, [], slice_get, unwrap_or}
use Rattle.csv.specs.Reading.{records, default_config, strip_bom}

-- the records of a file's bytes, each the list of its fields' bytes; a byte order mark in front is no part of them
unfoldable pub records_of : List ℕ → List (List (List ℕ))
records_of bytes = records default_config (strip_bom bytes)

-- the field of a column that counts from 1, the empty one where the record ends before it
abbrev pub field_of : ℕ → List (List ℕ) → List ℕ
field_of column fields = unwrap_or (slice_get fields (column - 1)) []
