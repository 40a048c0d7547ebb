use Rattle.std.proofs.Common.{take}
use Rattle.std.specs.List.{AllZip}
use Rattle.fill_guard.specs.Matches.{IsMatchCount}
use Rattle.fill_guard.proofs.read.counts.Given as goal

abbrev pub invariant-loop-cell : goal.invariant-loop-cell
invariant-loop-cell l = AllZip (IsMatchCount l.seq) (take l.cell-index l.cells) l.counts.items
