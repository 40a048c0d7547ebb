use Rattle.fill_guard.specs.Least.{NonePair}
use Rattle.fill_guard.proofs.least.first_pair.Given as goal

abbrev pub invariant-loop-i : goal.invariant-loop-i
invariant-loop-i l = NonePair l.candidates l.i
