use Rattle.fill_split.proofs.Alike.{renewed_stand}
use Rattle.fill_split.proofs.laws.renewed_folds_stand.Goals as goal

pub returns : goal.returns
returns g c = renewed_stand g.M.Maker
