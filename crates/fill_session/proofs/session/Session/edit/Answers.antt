use Rattle.std.proofs.Common.{ap, ◌∙◌}
use Rattle.fill_undo.specs.Done.{done_of}
use Rattle.fill_session.specs.State.{SessionData, seen_as}
use Rattle.fill_session.specs.Timeline.{edited, timeline}
use Rattle.fill_session.specs.declared.present.Present.{Present}
use Rattle.fill_session.proofs.Compacting.{clear_is_not_due}
use Rattle.fill_session.proofs.Held.{held_stays, as_before, next_held, states_stay}
use Rattle.fill_session.proofs.Moving.{edited_is}
use Rattle.fill_session.proofs.session.Session.edit.Goals as goal

pub invariant_of-self : goal.invariant_of-self
invariant_of-self g c =
    next_held (λ (q : Present). q.folds) (λ (q : Present). q.examples) (λ (q : Present). q.branches) c.self.inside.spaces c.present_after.new.spaces c.self.inside.history c.push.new.self
    c.self.inside.present c.replace-before.result c.replace-before.new.dest c.in-Ok.present (done_of c.args.edit.now) c.in-Ok.ensures.ground c.in-Ok.ensures.older c.self.invariant.0 c.self.invariant.1
    c.in-Ok.ensures.made.0 c.replace-before.ensures.value c.replace-before.ensures.after c.push.ensures.past c.push.ensures.future

pub invariant_of-self-else-is_due : goal.invariant_of-self-else-is_due
invariant_of-self-else-is_due g c =
    next_held (λ (q : Present). q.folds) (λ (q : Present). q.examples) (λ (q : Present). q.branches) c.self.inside.spaces c.present_after.new.spaces c.self.inside.history c.push.new.self
    c.self.inside.present c.replace-before.result c.replace-before.new.dest c.in-Ok.present (done_of c.args.edit.now) c.in-Ok.ensures.ground c.in-Ok.ensures.older c.self.invariant.0 c.self.invariant.1
    c.in-Ok.ensures.made.0 c.replace-before.ensures.value c.replace-before.ensures.after c.push.ensures.past c.push.ensures.future

pub invariant_of-self-in-Err : goal.invariant_of-self-in-Err
invariant_of-self-in-Err g c =
    let p = c.self.inside.present in (
      held_stays c.self.inside.spaces c.present_after.new.spaces p.examples p.folds p.branches c.in-Err.ensures.ground c.in-Err.ensures.older c.self.invariant.0,
      states_stay (λ (q : Present). q.folds) (λ (q : Present). q.examples) (λ (q : Present). q.branches) c.self.inside.spaces c.present_after.new.spaces c.self.inside.history c.in-Err.ensures.ground c.in-Err.ensures.older c.self.invariant.1,
    )

pub returns-then-is_due-clause-timeline : goal.returns-then-is_due-clause-timeline
returns-then-is_due-clause-timeline g c =
    (λ i. record { examples = c.compact.ensures.examples i; moves = c.compact.ensures.moves i })
    ∙ edited_is (λ (q : Present). q.examples) c.self.inside.history c.push.new.self c.self.inside.present c.replace-before.result c.replace-before.new.dest c.in-Ok.present c.args.edit.now
    c.replace-before.ensures.value c.replace-before.ensures.after c.push.ensures.past c.push.ensures.future c.in-Ok.ensures.made.1
    ∙ ap (λ (v : SessionData). edited (timeline v) c.args.edit.now) c.self.view_is

pub returns-else-is_due-clause-timeline : goal.returns-else-is_due-clause-timeline
returns-else-is_due-clause-timeline g c =
    edited_is (λ (q : Present). q.examples) c.self.inside.history c.push.new.self c.self.inside.present c.replace-before.result c.replace-before.new.dest c.in-Ok.present c.args.edit.now
    c.replace-before.ensures.value c.replace-before.ensures.after c.push.ensures.past c.push.ensures.future c.in-Ok.ensures.made.1
    ∙ ap (λ (v : SessionData). edited (timeline v) c.args.edit.now) c.self.view_is

pub returns-in-Err-clause-as_before : goal.returns-in-Err-clause-as_before
returns-in-Err-clause-as_before g c =
    let p = c.self.inside.present in
    as_before c.self.inside.spaces p.examples p.folds p.branches (seen_as (λ (q : Present). q.examples) c.self.inside.history) c.args.self.now c.self.view_is c.self.invariant.0 c.present_after.new.spaces
    c.in-Err.ensures.ground c.in-Err.ensures.older c.in-Err.ensures.cut

pub returns-then-is_due-clause-same : goal.returns-then-is_due-clause-same
returns-then-is_due-clause-same g c = λ clear. absurd (clear_is_not_due _ _ _ _ (c.is_due.ensures.0 c.if-is_due.true) clear)

pub returns-else-is_due-clause-same : goal.returns-else-is_due-clause-same
returns-else-is_due-clause-same g c = λ clear. c.in-Ok.ensures.same clear ∙ ap (λ (v : SessionData). v.spaces) c.self.view_is

pub returns-in-Err-clause-same : goal.returns-in-Err-clause-same
returns-in-Err-clause-same g c = λ clear. c.in-Err.ensures.same clear ∙ ap (λ (v : SessionData). v.spaces) c.self.view_is
