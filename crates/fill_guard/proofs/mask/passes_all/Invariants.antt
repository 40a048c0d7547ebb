use Rattle.std.proofs.Common.{take}
use Rattle.std.specs.List.{All}
use Rattle.fill_guard.specs.Read.{Passes}
use Rattle.fill_guard.proofs.mask.passes_all.Given as goal

abbrev pub invariant-loop-count : goal.invariant-loop-count
invariant-loop-count l = All (Passes l.l) (take l.count-index l.counts)
