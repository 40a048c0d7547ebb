use Rattle.std.proofs.Common.{take}
use Rattle.fill_session.specs.Taken.{NoneTakes}
use Rattle.fill_session.proofs.answers.first_taker.Given as goal

abbrev pub invariant-loop-k : goal.invariant-loop-k
invariant-loop-k l = NoneTakes l.sheet l.row (take l.k l.shown)
