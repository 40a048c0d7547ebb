use Rattle.fill_meet.specs.Meet.{AreApart}
use Rattle.fill_meet.specs.Sets.{AtomIn}
use Rattle.fill_meet.specs.Verdicts.{AreVerdicts}
use Rattle.fill_meet.proofs.Lists.{AllBelow}
use Rattle.fill_meet.proofs.apart.meets_some.Given as goal

abbrev pub invariant-loop-j : goal.invariant-loop-j
invariant-loop-j l = record { verdicts : AreVerdicts l.arena l.verdicts; apart : AllBelow (AreApart AtomIn l.arena l.x) l.ys l.j }
