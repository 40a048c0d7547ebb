use Rattle.fill_arena.specs.Contents.{SomeIn}
use Rattle.fill_arena.proofs.Scan.{NoneBelow}
use Rattle.fill_meet.specs.Verdicts.{AreAlike}
use Rattle.fill_meet.proofs.apart.share_source.Given as goal

abbrev pub invariant-loop-x : goal.invariant-loop-x
invariant-loop-x l = NoneBelow (λ x. SomeIn (AreAlike x) l.ys) l.xs l.x-index
