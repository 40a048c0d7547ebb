use Rattle.fill_arena.specs.Copied.{Takes}
use Rattle.fill_arena.proofs.Zips.{IsZippedTo}
use Rattle.fill_arena.proofs.renumber.renumber_graphs.Given as goal

abbrev pub invariant-loop-i : goal.invariant-loop-i
invariant-loop-i l = IsZippedTo (Takes l.table) l.i l.fn.live l.live
