use Rattle.std.specs.Option.{IfSome}
use Rattle.fill_doubt.specs.Shapes.{ShapesStand}
use Rattle.fill_session.specs.Suggested.{FirstAsked, IsFew}
use Rattle.fill_session.proofs.suggestion.first_asked.Given as goal

-- the row to look at first of those above
abbrev pub invariant-loop-above : goal.invariant-loop-above
invariant-loop-above l = record {
  shapes : ShapesStand l.asking.session.now.spaces.arena l.shapes;
  first : FirstAsked l.asking.session.now.spaces.ground l.asking.session.now.examples l.asking.passed.now l.asking.silent l.above l.best;
  few : IfSome l.best (IsFew l.asking.session.now.spaces.ground.settings.profile.prices);
}
