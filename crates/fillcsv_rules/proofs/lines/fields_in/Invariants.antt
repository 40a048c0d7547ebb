use Rattle.std.proofs.Common.{◌≡◌, drop, take}
use Rattle.fillcsv_rules.proofs.lines.fields_in.Given as goal

abbrev pub invariant-loop-i : goal.invariant-loop-i
invariant-loop-i l = l.fields ≡ take l.i (drop 1 l.line)
