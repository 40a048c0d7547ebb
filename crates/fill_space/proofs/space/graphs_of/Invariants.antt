use Rattle.std.proofs.Common.{◌≡◌, take}
use Rattle.fill_space.proofs.space.graphs_of.Given as goal

abbrev pub invariant-loop-i : goal.invariant-loop-i
invariant-loop-i l = l.graphs.items ≡ take l.i l.spaces
