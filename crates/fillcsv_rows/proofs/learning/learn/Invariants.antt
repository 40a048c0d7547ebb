use Rattle.std.proofs.Common.{◌≡◌}
use Rattle.fillcsv_rows.specs.Learned.{LearnsFirst}
use Rattle.fillcsv_rows.proofs.learning.learn.Given as goal

-- the rows so far
abbrev pub invariant-loop-above : goal.invariant-loop-above
invariant-loop-above g l = record {
  ground : l.session.spaces.ground ≡ l.initial.session.spaces.ground;
  learned : LearnsFirst l.typed l.initial.session.spaces.ground l.above l.session.examples l.refused;
}
