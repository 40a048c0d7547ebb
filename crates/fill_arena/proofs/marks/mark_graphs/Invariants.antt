use Rattle.std.proofs.Common.{◌≡◌, take}
use Rattle.std.specs.List.{fold}
use Rattle.fill_arena.specs.Copied.{marked}
use Rattle.fill_arena.proofs.marks.mark_graphs.Given as goal

abbrev pub invariant-loop-i : goal.invariant-loop-i
invariant-loop-i l = l.marks ≡ fold marked l.fn.marks (take l.i l.live)
