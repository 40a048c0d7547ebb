use Rattle.std.proofs.Common.{◌∙◌}
use Rattle.fill_tables.proofs.Fields.{columns_more}
use Rattle.fill_tables.proofs.reading.columns_to.Goals as goal

pub loop-i-preserved : goal.loop-i-preserved
loop-i-preserved c = c.in_ok-push.ensures.items ∙ rw c.loop-i.invariant (columns_more c.loop-i.i)
