use Rattle.std.proofs.Common.{◌≡◌, ◌+◌, drop}
use Rattle.fill_script.specs.Entries.{entries_from}
use Rattle.fill_script.proofs.Runs.{after_entries}
use Rattle.fill_script.proofs.entries.entries_of.Given as goal

abbrev pub invariant-loop-line : goal.invariant-loop-line
invariant-loop-line l = record {
  number : l.number ≡ l.first + l.line-index;
  rest : entries_from l.first l.lines ≡ after_entries l.entries (entries_from l.number (drop l.line-index l.lines));
}
