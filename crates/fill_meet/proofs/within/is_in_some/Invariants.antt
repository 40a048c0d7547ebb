use Rattle.fill_meet.specs.Memory.{IsRight}
use Rattle.fill_meet.proofs.within.is_in_some.Given as goal

abbrev pub invariant-loop-j : goal.invariant-loop-j
invariant-loop-j l = IsRight l.arena l.memo
