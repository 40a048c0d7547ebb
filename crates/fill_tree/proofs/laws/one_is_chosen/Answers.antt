use Rattle.fill_tree.proofs.ProgramOrder.{least_is_one}
use Rattle.fill_tree.specs.Chosen.{Explains}
use Rattle.fill_tree.proofs.laws.one_is_chosen.Goals as goal

pub returns : goal.returns
returns c settings sheet tables examples = least_is_one settings.profile.prices (Explains settings sheet tables examples)
