use Rattle.fill_arena.specs.Contents.{EachIn}
use Rattle.fill_meet.specs.Meet.{AreApart}
use Rattle.fill_meet.specs.Sets.{AtomIn}
use Rattle.fill_meet.specs.Verdicts.{AreVerdicts}
use Rattle.fill_meet.proofs.Lists.{AllBelow}
use Rattle.fill_meet.proofs.apart.atoms_may_meet.Given as goal

abbrev pub invariant-loop-i : goal.invariant-loop-i
invariant-loop-i l = record { verdicts : AreVerdicts l.arena l.verdicts; apart : AllBelow (λ x. EachIn (AreApart AtomIn l.arena x) l.ys) l.xs l.i }
