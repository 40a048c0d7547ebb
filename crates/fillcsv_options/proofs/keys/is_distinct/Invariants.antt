use Rattle.std.proofs.Common.{◌≡◌, drop}
use Rattle.fill_numbers.specs.Columns.{is_distinct}
use Rattle.fillcsv_options.proofs.keys.is_distinct.Given as goal

abbrev pub invariant-loop-i : goal.invariant-loop-i
invariant-loop-i l = is_distinct l.numbers ≡ is_distinct (drop l.i l.numbers)
