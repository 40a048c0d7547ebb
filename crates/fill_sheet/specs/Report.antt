-- The text of a record in a report.
use Rattle.std.specs.Prelude.{ℕ, List}
use Rattle.csv.specs.Writing.{row_text, default_writer}

-- a record as a CSV file has it: commas between the fields, a line feed at its end, and double quotes round each field
-- that needs them
unfoldable pub record_text : List (List ℕ) → List ℕ
record_text fields = row_text default_writer fields
