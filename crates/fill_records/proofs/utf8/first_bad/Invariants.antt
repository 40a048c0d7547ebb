use Rattle.std.proofs.Common.{◌≡◌, ◌+◌, drop}
use Rattle.fill_records.specs.Texts.{first_bad}
use Rattle.fill_records.proofs.utf8.first_bad.Given as goal

abbrev pub invariant-loop-record : goal.invariant-loop-record
invariant-loop-record l = record {
  number : l.number ≡ l.first + l.record-index;
  rest : first_bad l.columns l.first l.records ≡ first_bad l.columns l.number (drop l.record-index l.records);
}
