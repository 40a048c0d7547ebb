use Rattle.std.proofs.Common.{◌≡◌, List, take, map}
use Rattle.std.specs.List.{AllZip, flat_map}
use Rattle.fill_tree.specs.Switch.{case_tree}
use Rattle.fill_session.specs.Answers.{cases_of}
use Rattle.fill_session.specs.Branches.{BranchData}
use Rattle.fill_session.specs.State.{Shows}
use Rattle.fill_session.proofs.answers.cases_from.Given as goal

abbrev pub invariant-loop-branch : goal.invariant-loop-branch
invariant-loop-branch l = (branches : List BranchData) → AllZip Shows l.shown branches
    → map case_tree l.cases ≡ flat_map (λ b. cases_of b.guard b.program) (take l.branch-index branches)
