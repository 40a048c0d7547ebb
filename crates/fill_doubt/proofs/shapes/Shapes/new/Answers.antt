use Rattle.fill_doubt.proofs.Kept.{none_stand}
use Rattle.fill_doubt.proofs.shapes.Shapes.new.Goals as goal

pub returns : goal.returns
returns c = λ entries. none_stand entries (record { reads = c.new.result; size = 0 }) c.new.ensures.items
