use Rattle.fill_arena.proofs.Scan.{NoneBelow}
use Rattle.fill_meet.specs.Sets.{IsPartItem}
use Rattle.fill_meet.proofs.sets.has_part.Given as goal

abbrev pub invariant-loop-item : goal.invariant-loop-item
invariant-loop-item l = NoneBelow IsPartItem l.item-items l.item-index
