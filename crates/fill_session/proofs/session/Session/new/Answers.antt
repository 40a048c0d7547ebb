use Rattle.std.proofs.Common.{ap}
use Rattle.fill_space.specs.Spaces.{SpacesData}
use Rattle.fill_session.specs.State.{IsHeld}
use Rattle.fill_session.specs.declared.present.Present.{Present}
use Rattle.fill_session.proofs.Moving.{none_held}
use Rattle.fill_session.proofs.session.Session.new.Goals as goal

pub invariant_of-result : goal.invariant_of-result
invariant_of-result c = (
  c.none-present.ensures.held c.new-spaces.result (ap (λ (s : SpacesData). s.ground.settings) c.new-spaces.ensures),
  none_held (λ (p : Present). IsHeld c.new-spaces.result p.examples p.folds p.branches) c.in_ok-history.history c.in_ok-history.ensures,
)
