use Rattle.std.proofs.Common.{◌≡◌, take}
use Rattle.fillcsv_rule_runs.proofs.places.places_of.Given as goal

abbrev pub invariant-loop-column : goal.invariant-loop-column
invariant-loop-column l = l.sources.items ≡ take l.column-index l.inputs
