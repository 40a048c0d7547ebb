use Rattle.std.proofs.Common.{◌≡◌, take}
use Rattle.std.specs.List.{fold, flat_map}
use Rattle.fill_arena.specs.Copied.{marked}
use Rattle.fill_arena.specs.Named.{edge_names}
use Rattle.fill_arena.proofs.marks.mark_edges.Given as goal

abbrev pub invariant-loop-i : goal.invariant-loop-i
invariant-loop-i l = l.marks ≡ fold marked l.fn.marks (flat_map edge_names (take l.i l.edges))
