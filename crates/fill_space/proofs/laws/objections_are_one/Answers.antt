use Rattle.fill_space.proofs.Objector.{objection_is_one}
use Rattle.fill_space.proofs.laws.objections_are_one.Goals as goal

pub returns : goal.returns
returns c = objection_is_one
