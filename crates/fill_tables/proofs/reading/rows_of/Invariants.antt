use Rattle.std.proofs.Common.{◌≡◌, map, take}
use Rattle.fill_tables.specs.Reading.{row_of}
use Rattle.fill_tables.proofs.reading.rows_of.Given as goal

abbrev pub invariant-loop-record : goal.invariant-loop-record
invariant-loop-record l = l.rows.items ≡ map (row_of l.columns) (take l.record-index l.records)
