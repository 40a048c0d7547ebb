use Rattle.fill_arena.proofs.Scan.{NoneBelow}
use Rattle.fill_meet.specs.Verdicts.{AreAlike}
use Rattle.fill_meet.proofs.apart.is_like_some.Given as goal

abbrev pub invariant-loop-y : goal.invariant-loop-y
invariant-loop-y l = NoneBelow (AreAlike l.x) l.ys l.y-index
