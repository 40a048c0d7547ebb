use Rattle.std.proofs.Common.{◌≡◌, take}
use Rattle.csv.specs.Records.{fields_of}
use Rattle.csv.specs.Writing.{default_writer, row_body}
use Rattle.fillcsv_columns.specs.Fields.{with_field}
use Rattle.fillcsv_rule_runs.proofs.text.row_bytes.Given as goal

abbrev pub invariant-loop-i : goal.invariant-loop-i
invariant-loop-i l = l.text ≡ row_body default_writer (take l.i (with_field l.column l.field (fields_of l.row)))
