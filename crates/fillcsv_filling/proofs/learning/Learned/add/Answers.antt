use Rattle.std.proofs.Common.{refl}
use Rattle.fillcsv_filling.proofs.learning.Learned.add.Goals as goal

pub returns-in-Ok-clause-added : goal.returns-in-Ok-clause-added
returns-in-Ok-clause-added g c = (c.in-Ok.ensures.answers, refl)
