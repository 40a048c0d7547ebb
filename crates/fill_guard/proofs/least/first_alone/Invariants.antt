use Rattle.fill_guard.specs.Least.{NoneAlone}
use Rattle.fill_guard.proofs.least.first_alone.Given as goal

abbrev pub invariant-loop-i : goal.invariant-loop-i
invariant-loop-i l = NoneAlone l.candidates l.i
