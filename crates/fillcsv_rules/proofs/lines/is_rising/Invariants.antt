use Rattle.std.proofs.Common.{◌≡◌, ◌-◌, drop}
use Rattle.fillcsv_rules.specs.File.{is_rising}
use Rattle.fillcsv_rules.proofs.lines.is_rising.Given as goal

abbrev pub invariant-loop-i : goal.invariant-loop-i
invariant-loop-i l = is_rising (drop (l.i - 1) l.numbers) ≡ is_rising l.numbers
