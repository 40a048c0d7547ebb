use Rattle.std.proofs.Common.{subst, sym}
use Rattle.fill_session.specs.State.{IsHeld}
use Rattle.fill_session.specs.declared.present.Present.{Present}
use Rattle.fill_session.proofs.Moving.{held_undone}
use Rattle.fill_session.proofs.session.Session.undo.Goals as goal

pub invariant_of-self : goal.invariant_of-self
invariant_of-self c =
    let held = λ (p : Present). IsHeld c.self.inside.spaces p.examples p.folds p.branches in
    let moved = c.in-Ok.before in
    let h = held_undone held c.self.inside.history c.undo.new.self moved (record { state = c.replace-now.result; done = moved.done }) c.in-Ok.ensures.taken c.in-Ok.ensures.put c.self.invariant.1
    (subst held (sym c.replace-now.ensures.value) c.self.invariant.0) in
    (h.there, h.left)
