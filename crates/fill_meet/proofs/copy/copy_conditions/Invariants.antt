use Rattle.std.proofs.Common.{◌≡◌, take}
use Rattle.fill_meet.proofs.copy.copy_conditions.Given as goal

abbrev pub invariant-loop-condition : goal.invariant-loop-condition
invariant-loop-condition l = l.copied ≡ take l.condition-index l.conditions
