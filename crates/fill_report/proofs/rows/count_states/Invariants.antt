use Rattle.fill_doubt.specs.Shapes.{ShapesStand}
use Rattle.fill_report.specs.Counts.{CountRows}
use Rattle.fill_report.proofs.rows.count_states.Given as goal

-- the states so far are counted, and what was found of shapes stands
abbrev pub invariant-loop-above : goal.invariant-loop-above
invariant-loop-above l = record {
  counts : CountRows l.session.spaces.ground l.session.examples l.above l.counts;
  shapes : ShapesStand l.session.spaces.arena l.shapes;
}
