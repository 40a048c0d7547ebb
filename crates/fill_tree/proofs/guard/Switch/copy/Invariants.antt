use Rattle.std.proofs.Common.{◌≡◌, map, take}
use Rattle.fill_tree.specs.Switch.{case_tree}
use Rattle.fill_tree.proofs.guard.Switch.copy.Given as goal

abbrev pub invariant-loop-case : goal.invariant-loop-case
invariant-loop-case l = map case_tree l.cases ≡ map case_tree (take l.case-index l.case-items)
