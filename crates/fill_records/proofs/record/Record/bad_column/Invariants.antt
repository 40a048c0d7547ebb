use Rattle.std.proofs.Common.{◌≡◌, drop}
use Rattle.fill_records.specs.Texts.{bad_column}
use Rattle.fill_records.proofs.record.Record.bad_column.Given as goal

abbrev pub invariant-loop-column : goal.invariant-loop-column
invariant-loop-column l = bad_column l.columns l.self ≡ bad_column (drop l.column-index l.columns) l.self
