use Rattle.std.proofs.Common.{take}
use Rattle.std.specs.List.{AllZip}
use Rattle.fill_arena.specs.Copied.{EdgeBecomes, Takes}
use Rattle.fill_arena.proofs.renumber.renumber_edges.Given as goal

abbrev pub invariant-loop-i : goal.invariant-loop-i
invariant-loop-i l = AllZip (EdgeBecomes (Takes l.table)) (take l.i l.edges) l.made
