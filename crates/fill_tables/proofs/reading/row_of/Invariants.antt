use Rattle.std.proofs.Common.{◌≡◌, map, take}
use Rattle.fill_records.specs.Texts.{text_in}
use Rattle.fill_tables.proofs.reading.row_of.Given as goal

abbrev pub invariant-loop-column : goal.invariant-loop-column
invariant-loop-column l = l.row ≡ map (text_in l.fields) (take l.column-index l.columns)
