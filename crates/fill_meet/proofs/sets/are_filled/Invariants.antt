use Rattle.fill_meet.specs.Sets.{IsFilled}
use Rattle.fill_meet.proofs.Lists.{AllBelow}
use Rattle.fill_meet.proofs.sets.are_filled.Given as goal

abbrev pub invariant-loop-condition : goal.invariant-loop-condition
invariant-loop-condition l = AllBelow IsFilled l.conditions l.condition-index
