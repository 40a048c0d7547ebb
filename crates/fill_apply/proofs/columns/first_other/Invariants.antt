use Rattle.std.proofs.Common.{map, take, All, Contains}
use Rattle.fill_tree.specs.Switch.{case_tree}
use Rattle.fill_apply.specs.Saved.{columns_read}
use Rattle.fill_apply.proofs.columns.first_other.Given as goal

abbrev pub invariant-loop-case : goal.invariant-loop-case
invariant-loop-case l = All (Contains l.inputs) (columns_read (map case_tree (take l.case-index l.s.cases)))
