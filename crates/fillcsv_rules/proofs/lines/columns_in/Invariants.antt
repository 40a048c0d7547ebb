use Rattle.std.proofs.Common.{◌≡◌, drop}
use Rattle.fill_numbers.specs.Columns.{numbers_in}
use Rattle.fill_numbers.proofs.Spelled.{after_numbers}
use Rattle.fillcsv_rules.proofs.lines.columns_in.Given as goal

abbrev pub invariant-loop-i : goal.invariant-loop-i
invariant-loop-i l = after_numbers l.columns.items (numbers_in 1000 (drop l.i l.line)) ≡ numbers_in 1000 (drop 1 l.line)
