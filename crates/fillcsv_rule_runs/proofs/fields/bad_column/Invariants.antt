use Rattle.std.proofs.Common.{◌≡◌, drop}
use Rattle.csv.specs.Records.{fields_of}
use Rattle.fill_records.specs.Texts.{bad_column}
use Rattle.fillcsv_rule_runs.proofs.fields.bad_column.Given as goal

abbrev pub invariant-loop-column : goal.invariant-loop-column
invariant-loop-column l = bad_column l.columns (fields_of l.row) ≡ bad_column (drop l.column-index l.columns) (fields_of l.row)
