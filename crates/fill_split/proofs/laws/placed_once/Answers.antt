use Rattle.fill_split.proofs.Alike.{placed_once_in}
use Rattle.fill_split.proofs.laws.placed_once.Goals as goal

pub returns : goal.returns
returns g c = placed_once_in g.M.Maker
