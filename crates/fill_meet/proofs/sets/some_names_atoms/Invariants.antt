use Rattle.fill_arena.proofs.Scan.{NoneBelow}
use Rattle.fill_meet.specs.Sets.{NamesAtoms}
use Rattle.fill_meet.proofs.sets.some_names_atoms.Given as goal

abbrev pub invariant-loop-condition : goal.invariant-loop-condition
invariant-loop-condition l = NoneBelow NamesAtoms l.conditions l.condition-index
