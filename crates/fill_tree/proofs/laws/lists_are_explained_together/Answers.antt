use Rattle.fill_tree.proofs.Explained.{together}
use Rattle.fill_tree.proofs.laws.lists_are_explained_together.Goals as goal

pub returns : goal.returns
returns c = together
