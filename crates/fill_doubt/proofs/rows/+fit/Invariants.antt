use Rattle.std.proofs.Common.{length}
use Rattle.fill_doubt.proofs.rows.+fit.Given as goal

abbrev pub decreases-fit : goal.decreases-fit
decreases-fit l = length l.conditions.now
