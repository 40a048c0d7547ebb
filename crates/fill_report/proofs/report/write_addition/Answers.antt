use Rattle.std.proofs.Common.{◌≡◌, ◌∷◌, List, [], None, Some, false, sym, ap, ◌∙◌, subst}
use Rattle.fill_sheet.specs.Sheet.{given_at}
use Rattle.fill_tree.specs.declared.user.Edit.TheVariants.{Add}
use Rattle.fill_script.specs.declared.script.Entry.{Entry}
use Rattle.fill_script.specs.declared.script.Entry.TheVariants as entry
use Rattle.fill_session.specs.Timeline.{timeline}
use Rattle.fill_report.specs.Report.{addition_at}
use Rattle.fill_report.proofs.Reported.{add_none, add_some, given_on, leaves_single, lost_single}
use Rattle.fill_report.proofs.Walk.{Wrote, wrote_none}
use Rattle.fill_report.proofs.report.write_addition.Goals as goal

pub returns-in-None-clause-leaves : goal.returns-in-None-clause-leaves
returns-in-None-clause-leaves g c =
    let s = c.args.session.now in
    let row = c.args.row in
    let given : None ≡ given_at s.spaces.ground.sheet row = given_on c.sheet.result.now s.spaces.ground.sheet row None c.sheet.ensures c.in-None.ensures in
    subst (λ (es : List Entry). Wrote s.spaces.ground (timeline s) es (timeline s) false (g.O.Sink.written c.args.out.now) (g.O.Sink.written c.args.out.now) c.args.steps.now c.args.steps.now)
    (sym (add_none s.spaces.ground.sheet row given)) (wrote_none s.spaces.ground (timeline s) (g.O.Sink.written c.args.out.now) c.args.steps.now)

pub returns-in-Ok-clause-leaves : goal.returns-in-Ok-clause-leaves
returns-in-Ok-clause-leaves g c =
    let s = c.args.session.now in
    let row = c.args.row in
    let given : Some c.in-Some.text.now ≡ given_at s.spaces.ground.sheet row = given_on c.sheet.result.now s.spaces.ground.sheet row (Some c.in-Some.text.now) c.sheet.ensures c.in-Some.ensures in
    let one : addition_at s.spaces.ground.sheet row ≡ entry.Edit (Add row c.in-Ok.text) ∷ [] =
    add_some s.spaces.ground.sheet row c.in-Ok.text (ap Some c.in-Ok.ensures ∙ given) in
    leaves_single s.spaces.ground (timeline s) (timeline c.write_edit.new.session) (entry.Edit (Add row c.in-Ok.text)) (addition_at s.spaces.ground.sheet row) c.write_edit.result _ _
    c.args.steps.now c.write_edit.new.steps one c.write_edit.ensures.leaves

pub returns-in-Err-clause-leaves : goal.returns-in-Err-clause-leaves
returns-in-Err-clause-leaves g c =
    let s = c.args.session.now in
    let row = c.args.row in
    let given : Some c.in-Some.text.now ≡ given_at s.spaces.ground.sheet row = given_on c.sheet.result.now s.spaces.ground.sheet row (Some c.in-Some.text.now) c.sheet.ensures c.in-Some.ensures in
    lost_single s.spaces.ground (timeline s) (Add row c.in-Some.text.now) (addition_at s.spaces.ground.sheet row) (g.O.Sink.written c.args.out.now) c.args.steps.now
    (add_some s.spaces.ground.sheet row c.in-Some.text.now given)
