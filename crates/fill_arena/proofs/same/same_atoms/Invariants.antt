use Rattle.fill_arena.proofs.Alike.{SameBelow}
use Rattle.fill_arena.proofs.same.same_atoms.Given as goal

abbrev pub invariant-loop-i : goal.invariant-loop-i
invariant-loop-i l = SameBelow l.xs l.ys l.i
