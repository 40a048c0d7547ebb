use Rattle.std.proofs.Common.{inr, refl}
use Rattle.fill_engine.specs.Answer.{no_memory}
use Rattle.fill_engine.proofs.fill_engine.Goals as goal

pub returns-in-Err : goal.returns-in-Err
returns-in-Err c = (no_memory, inr refl, c.leave-in-Err.ensures)
