use Rattle.fill_space.specs.Met.{AreReplaced}
use Rattle.fill_space.proofs.carried.copies_of.Given as goal

abbrev pub invariant-loop-i : goal.invariant-loop-i
invariant-loop-i l = AreReplaced l.listed l.new l.copies
