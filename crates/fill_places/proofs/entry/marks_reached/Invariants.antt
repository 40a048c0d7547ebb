use Rattle.fill_places.specs.Marks.{AreMarked}
use Rattle.fill_places.proofs.entry.marks_reached.Given as goal

abbrev pub invariant-loop-i : goal.invariant-loop-i
invariant-loop-i l = AreMarked l.at l.from l.to l.i l.n l.marks
