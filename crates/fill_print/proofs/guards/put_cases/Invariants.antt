use Rattle.std.proofs.Common.{◌≡◌, ◌++◌, map, drop}
use Rattle.fill_tree.specs.Switch.{case_tree}
use Rattle.fill_print.specs.Notation.{cases_text}
use Rattle.fill_print.proofs.guards.put_cases.Given as goal

abbrev pub invariant-loop-case : goal.invariant-loop-case
invariant-loop-case l = l.to ++ cases_text (map case_tree (drop l.case-index l.cases)) ≡ l.initial.to ++ cases_text (map case_tree l.cases)
