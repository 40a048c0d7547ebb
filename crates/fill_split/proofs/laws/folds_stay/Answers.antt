use Rattle.fill_split.proofs.Alike.{folds_stay}
use Rattle.fill_split.proofs.laws.folds_stay.Goals as goal

pub returns : goal.returns
returns g c = folds_stay g.M.Maker
