use Rattle.std.proofs.Common.{◌≡◌, max, drop}
use Rattle.fill_tables.specs.Reading.{width_of}
use Rattle.fill_tables.proofs.reading.width_of.Given as goal

abbrev pub invariant-loop-record : goal.invariant-loop-record
invariant-loop-record l = width_of l.records ≡ max l.width (width_of (drop l.record-index l.records))
