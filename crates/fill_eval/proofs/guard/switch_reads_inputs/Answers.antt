use Rattle.std.proofs.Common.{◌≤◌, length, refl}
use Rattle.std.proofs.lemmas.List.{take_all}
use Rattle.fill_tree.specs.Guard.{ReadsInputs}
use Rattle.fill_tree.specs.declared.guard.Case.{Case}
use Rattle.fill_eval.proofs.Guards.{all_more}
use Rattle.fill_eval.proofs.guard.switch_reads_inputs.Goals as goal

pub loop-case-preserved : goal.loop-case-preserved
loop-case-preserved c =
    all_more (λ (d : Case). ReadsInputs c.args.sheet.now d.guard) c.args.s.now.cases c.loop-case.case-index c.case-item.result (rw c.as_slice-case-items.ensures at c.loop-case-test.true)
    (rw c.as_slice-case-items.ensures at c.case-item.is) c.loop-case.invariant (c.guard_reads_inputs.ensures.0 c.if-not-guard_reads_inputs.false)

pub returns : goal.returns
returns c =
    let past : length c.args.s.now.cases ≤ c.loop-case.case-index = rw c.as_slice-case-items.ensures at c.loop-case-test.false in
    let all = rw (take_all c.loop-case.case-index c.args.s.now.cases past) at c.loop-case.invariant in
    ((λ _. all), (λ _. refl))
