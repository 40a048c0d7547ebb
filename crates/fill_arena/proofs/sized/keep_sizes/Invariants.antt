use Rattle.fill_arena.specs.WellMade.{IsSized}
use Rattle.fill_arena.proofs.Scan.{AllBelow}
use Rattle.fill_arena.proofs.sized.keep_sizes.Given as goal

abbrev pub invariant-loop-i : goal.invariant-loop-i
invariant-loop-i l = AllBelow IsSized l.places l.i
