use Rattle.fill_doubt.specs.Shapes.{ShapesStand}
use Rattle.test_embedding.proofs.example.answers.Given as goal

-- what was found of shapes stands
abbrev pub invariant-loop-above : goal.invariant-loop-above
invariant-loop-above l = ShapesStand l.session.spaces.arena l.shapes
