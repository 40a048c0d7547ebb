use Rattle.std.proofs.Common.{◌≡◌, ◌+◌, [], drop, map}
use Rattle.fillcsv_options.specs.Words.{lookup_data}
use Rattle.fillcsv_rules.specs.Lookups.{lookups_from}
use Rattle.fillcsv_rules.proofs.lookups.lookups_from.Given as goal

-- the tables and keys so far, and those of the lines that are left
abbrev pub invariant-loop-i : goal.invariant-loop-i
invariant-loop-i l = lookups_from (l.fn.number + l.i) (map lookup_data l.lookups.items) (drop l.i l.lines) ≡ lookups_from l.fn.number [] l.lines
