use Rattle.fill_arena.proofs.Alike.{SameBelow}
use Rattle.fill_space.proofs.space.put_graphs.Given as goal

abbrev pub invariant-loop-i : goal.invariant-loop-i
invariant-loop-i l = SameBelow l.spaces l.graphs l.i
