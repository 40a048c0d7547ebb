use Rattle.std.proofs.Common.{◌∙◌}
use Rattle.fillcsv_rows.proofs.Gained.{learns_more}
use Rattle.fillcsv_rows.proofs.learning.learn.Goals as goal

pub loop-above-preserved : goal.loop-above-preserved
loop-above-preserved g c =
    let here = c.loop-above.invariant in
    record {
      ground = c.in_ok-learn_row.ensures.ground ∙ here.ground;
      learned = learns_more c.args.typed.now c.args.session.now.spaces.ground c.loop-above.session.spaces.ground c.loop-above.above c.loop-above.session.examples _ c.loop-above.refused _
          here.ground here.learned c.in_ok-learn_row.ensures.gives;
    }
