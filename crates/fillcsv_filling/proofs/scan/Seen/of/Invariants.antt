use Rattle.std.proofs.Common.{◌≡◌, List, Some, drop, false, length, take}
use Rattle.fillcsv_columns.specs.Columns.{width}
use Rattle.fill_output.specs.Fields.{Fields}
use Rattle.fillcsv_filling.specs.Long.{header_in}
use Rattle.fillcsv_filling.proofs.scan.Seen.of.Given as goal

-- the records so far, where they are known
abbrev pub invariant-loop : goal.invariant-loop
invariant-loop g l = record {
  each : l.seen.records ≡ l.counter;
  more : l.seen.more ≡ false;
  left : (all : List Fields) → l.fn.pass ≡ Some all → l.pass ≡ Some (drop l.counter all);
  first : (all : List Fields) → l.fn.pass ≡ Some all → l.seen.header ≡ header_in l.header (take l.counter all);
  longest : (all : List Fields) → l.fn.pass ≡ Some all → l.seen.width ≡ width (take l.counter all);
  count : (all : List Fields) → l.fn.pass ≡ Some all → l.seen.records ≡ length (take l.counter all);
}
