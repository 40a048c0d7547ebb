use Rattle.std.proofs.Common.{◌≡◌, take, map}
use Rattle.fill_records.specs.Records.{field_of}
use Rattle.fillcsv_run.proofs.saving.names_of.Given as goal

abbrev pub invariant-loop-column : goal.invariant-loop-column
invariant-loop-column l = l.names ≡ map (λ column. field_of column l.header) (take l.column-index l.columns)
