use Rattle.fill_apply.proofs.FirstOthers.{case_in, cases_in, other_here}
use Rattle.fill_apply.proofs.columns.first_other.Goals as goal

pub returns-in-Some : goal.returns-in-Some
returns-in-Some c =
    let lt = rw c.as_slice-case-items.ensures at c.loop-case-test.true in
    let is = rw c.as_slice-case-items.ensures at c.case-item.is in
    other_here c.args.inputs.now c.args.s.now.cases c.loop-case.case-index c.case-item.result lt is c.in-Some.column c.loop-case.invariant c.in-Some.ensures

pub loop-case-preserved : goal.loop-case-preserved
loop-case-preserved c =
    let lt = rw c.as_slice-case-items.ensures at c.loop-case-test.true in
    let is = rw c.as_slice-case-items.ensures at c.case-item.is in
    case_in c.args.inputs.now c.args.s.now.cases c.loop-case.case-index c.case-item.result lt is c.loop-case.invariant (rw c.in_default.is at c.other_column.ensures)

pub returns : goal.returns
returns c = cases_in c.args.inputs.now c.args.s.now.cases c.loop-case.case-index (rw c.as_slice-case-items.ensures at c.loop-case-test.false) c.loop-case.invariant
