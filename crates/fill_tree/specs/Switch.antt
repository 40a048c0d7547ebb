-- Conditional programs as plain trees.
use Rattle.std.specs.Prelude.{List, map}
use Rattle.fill_tree.specs.Tree.{Atoms}
use Rattle.fill_tree.specs.Meaning.{program_tree}
use Rattle.fill_tree.specs.declared.guard.Guard.{Guard}
use Rattle.fill_tree.specs.declared.guard.Case.{Case}
use Rattle.fill_tree.specs.declared.guard.Switch.{Switch}

-- a guard, and the program for the rows on which it holds
pub record CaseTree : Type 0 where
  pub guard : Guard
  pub program : Atoms

-- the cases in order, and the program for the rows on which no guard holds
pub record SwitchTree : Type 0 where
  pub cases : List CaseTree
  pub last : Atoms

abbrev pub case_tree : Case → CaseTree
case_tree c = record { guard = c.guard; program = program_tree c.program }

abbrev pub switch_tree : Switch → SwitchTree
switch_tree s = record { cases = map case_tree s.cases; last = program_tree s.last }
