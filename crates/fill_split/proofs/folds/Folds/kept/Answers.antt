use Rattle.fill_split.proofs.Alike.{kept_live}
use Rattle.fill_split.proofs.folds.Folds.kept.Goals as goal

pub returns-clause-live : goal.returns-clause-live
returns-clause-live g c = λ maker items s. rw c.as_slice.ensures.value (kept_live g.M.Maker maker items c.args.self.now s)
