use Rattle.std.proofs.Common.{◌≡◌}
use Rattle.fill_tables.specs.Reading.{columns_to}
use Rattle.fill_tables.proofs.reading.columns_to.Given as goal

abbrev pub invariant-loop-i : goal.invariant-loop-i
invariant-loop-i l = l.columns.items ≡ columns_to l.i
