use Rattle.fill_doubt.proofs.Kept.{none_stand}
use Rattle.fill_doubt.proofs.shapes.Shapes.make_room.Goals as goal

pub returns : goal.returns
returns c = λ entries _. none_stand entries (record { reads = c.new.result; size = 0 }) c.new.ensures.items
