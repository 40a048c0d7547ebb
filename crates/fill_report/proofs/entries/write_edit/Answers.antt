use Rattle.std.proofs.Common.{refl, sym, ◌∙◌}
use Rattle.std.proofs.lemmas.Bool.{false≢true}
use Rattle.fill_session.specs.Timeline.{timeline}
use Rattle.fill_report.proofs.Edited.{edit_lost, edit_made, edit_refused}
use Rattle.fill_report.proofs.entries.write_edit.Goals as goal

pub returns-in-Ok-clause-leaves : goal.returns-in-Ok-clause-leaves
returns-in-Ok-clause-leaves g c =
    let s = c.args.session.now in
    edit_made s.spaces.ground (timeline s) (timeline c.edit.new.self) c.args.edit.now _ _ c.args.steps.now c.edit.new.steps c.in-Ok.ensures.cost
    c.ok_record.result c.write_made.result c.in-Ok.ensures.answers.0 c.in-Ok.ensures.timeline c.ok_record.ensures c.write_made.ensures.leaves

pub returns-then-is_memory-clause-leaves : goal.returns-then-is_memory-clause-leaves
returns-then-is_memory-clause-leaves g c =
    let s = c.args.session.now in
    edit_lost s.spaces.ground (timeline s) (timeline c.edit.new.self) c.args.edit.now _ (g.O.Sink.written c.args.out.now) c.args.steps.now c.edit.new.steps c.in-Err.ensures.cost refl

pub returns-else-is_memory-clause-leaves : goal.returns-else-is_memory-clause-leaves
returns-else-is_memory-clause-leaves g c =
    let s = c.args.session.now in
    edit_refused s.spaces.ground (timeline s) (timeline c.edit.new.self) c.args.edit.now _ _ c.args.steps.now c.edit.new.steps c.in-Err.ensures.cost
    c.in-Err.reason c.refused_record.result c.write_made-in-Err.result
    (c.in-Err.ensures.answers.0 (λ e. false≢true (sym c.if-is_memory.false ∙ c.is_memory.ensures.1 e)))
    c.in-Err.ensures.timeline c.refused_record.ensures c.write_made-in-Err.ensures.leaves
