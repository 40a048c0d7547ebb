use Rattle.fill_session.proofs.Making.{Yet}
use Rattle.fill_session.proofs.branches.guarded.Given as goal

abbrev pub invariant-loop-k : goal.invariant-loop-k
invariant-loop-k l = Yet l.spaces l.folds l.rows l.rest l.k l.made
