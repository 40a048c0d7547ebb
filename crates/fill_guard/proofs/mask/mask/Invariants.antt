use Rattle.std.proofs.Common.{take}
use Rattle.fill_guard.specs.Candidate.{IsMask}
use Rattle.fill_guard.specs.Read.{Passes}
use Rattle.fill_guard.proofs.mask.mask.Given as goal

abbrev pub invariant-loop-i : goal.invariant-loop-i
invariant-loop-i l = IsMask (Passes l.l) (take l.i l.counts) l.mask
