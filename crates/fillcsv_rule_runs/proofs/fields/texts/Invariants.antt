use Rattle.std.proofs.Common.{◌≡◌, map, take}
use Rattle.csv.specs.Records.{fields_of}
use Rattle.fill_records.specs.Texts.{text_in}
use Rattle.fillcsv_rule_runs.proofs.fields.texts.Given as goal

abbrev pub invariant-loop-column : goal.invariant-loop-column
invariant-loop-column l = l.texts ≡ map (text_in (fields_of l.row)) (take l.column-index l.columns)
