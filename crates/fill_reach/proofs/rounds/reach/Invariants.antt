use Rattle.fill_reach.specs.Marks.{AreMarked}
use Rattle.fill_reach.proofs.rounds.reach.Given as goal

abbrev pub invariant-loop-depth : goal.invariant-loop-depth
invariant-loop-depth l = AreMarked l.settings l.sheet l.tables l.row l.depth l.rows
