use Rattle.std.proofs.Common.{subst, sym}
use Rattle.fill_session.specs.State.{IsHeld}
use Rattle.fill_session.specs.declared.present.Present.{Present}
use Rattle.fill_session.proofs.Moving.{held_redone}
use Rattle.fill_session.proofs.session.Session.redo.Goals as goal

pub invariant_of-self : goal.invariant_of-self
invariant_of-self c =
    let held = λ (p : Present). IsHeld c.self.inside.spaces p.examples p.folds p.branches in
    let moved = c.in-Ok.after in
    let h = held_redone held c.self.inside.history c.redo.new.self moved (record { state = c.replace-now.result; done = moved.done }) c.in-Ok.ensures.taken c.in-Ok.ensures.put c.self.invariant.1
    (subst held (sym c.replace-now.ensures.value) c.self.invariant.0) in
    (h.there, h.left)
