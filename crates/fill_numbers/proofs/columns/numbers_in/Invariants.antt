use Rattle.std.proofs.Common.{◌≡◌, drop}
use Rattle.fill_numbers.specs.Columns.{numbers_in}
use Rattle.fill_numbers.proofs.Spelled.{after_numbers}
use Rattle.fill_numbers.proofs.columns.numbers_in.Given as goal

abbrev pub invariant-loop-i : goal.invariant-loop-i
invariant-loop-i l = after_numbers l.numbers (numbers_in l.high (drop l.i l.line)) ≡ numbers_in l.high (drop l.first l.line)
