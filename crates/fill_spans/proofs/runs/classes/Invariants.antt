use Rattle.fill_spans.proofs.RunLaws.{AreClassesBelow}
use Rattle.fill_spans.proofs.runs.classes.Given as goal

abbrev pub invariant-loop-i : goal.invariant-loop-i
invariant-loop-i l = AreClassesBelow l.t l.i l.classes.items
