use Rattle.std.proofs.Common.{map, take}
use Rattle.fill_tree.specs.Guard.{NoneHolds}
use Rattle.fill_tree.specs.Switch.{case_tree}
use Rattle.fill_eval.proofs.guard.taken.Given as goal

abbrev pub invariant-loop-case : goal.invariant-loop-case
invariant-loop-case l = NoneHolds l.sheet l.row (map case_tree (take l.case-index l.fn.s.cases))
