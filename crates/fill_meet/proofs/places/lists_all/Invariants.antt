use Rattle.fill_arena.specs.Contents.{In}
use Rattle.fill_meet.proofs.Lists.{AllBelow}
use Rattle.fill_meet.proofs.places.lists_all.Given as goal

abbrev pub invariant-loop-k : goal.invariant-loop-k
invariant-loop-k l = AllBelow (λ p. In p l.xs) l.places l.i
