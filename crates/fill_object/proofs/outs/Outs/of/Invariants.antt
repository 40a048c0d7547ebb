use Rattle.fill_object.proofs.OutLaws.{AreFirstOuts}
use Rattle.fill_object.proofs.outs.Outs.of.Given as goal

abbrev pub invariant-loop-i : goal.invariant-loop-i
invariant-loop-i l = AreFirstOuts l.edges l.nodes l.i l.latest.items l.before.items
