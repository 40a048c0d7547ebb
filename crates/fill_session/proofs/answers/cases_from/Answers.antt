use Rattle.std.proofs.Common.{◌∙◌, List, ap, length}
use Rattle.std.specs.List.{flat_map}
use Rattle.std.proofs.lemmas.List.{take_all}
use Rattle.std.proofs.Common.{◌≤◌, arith}
use Rattle.fill_split.proofs.Zips.{zip_lengths}
use Rattle.fill_session.specs.Branches.{BranchData}
use Rattle.fill_session.specs.State.{Shows}
use Rattle.fill_session.specs.declared.branch.Branch.{Branch}
use Rattle.fill_session.proofs.Answering.{case_list, case_some, case_none}
use Rattle.fill_session.proofs.answers.cases_from.Goals as goal
use Rattle.fill_session.proofs.answers.cases_from.Goals.{in-Some+in_ok-program+in_ok-push, in_default}

pub loop-branch-preserved : goal.loop-branch-preserved
loop-branch-preserved c = λ branches zip.
    let x : Branch = c.branch-item.result in
    elim c.match-branch.branch [
      | in-Some+in_ok-program+in_ok-push w ↦
          case_some c.args.shown.now branches c.loop-branch.branch-index x c.loop-branch.cases c.match-branch.cases zip c.loop-branch-test.true c.branch-item.is (c.loop-branch.invariant branches zip)
          w.in-Some.guard w.in_ok-program.program w.in-Some.is w.in_ok-program.ensures (w.cases-is ∙ w.in_ok-push.ensures.ok)
      | in_default w ↦
          case_none c.args.shown.now branches c.loop-branch.branch-index x c.loop-branch.cases c.match-branch.cases zip c.loop-branch-test.true c.branch-item.is (c.loop-branch.invariant branches zip)
          w.in_default.is w.cases-is
    ]

pub returns : goal.returns
returns c = λ branches zip.
    let size = zip_lengths Shows c.args.shown.now branches zip in
    let past = c.loop-branch-test.false in
    let le : length branches ≤ c.loop-branch.branch-index = omega arith in
    c.loop-branch.invariant branches zip ∙ ap (λ (v : List BranchData). flat_map case_list v) (take_all c.loop-branch.branch-index branches le)
