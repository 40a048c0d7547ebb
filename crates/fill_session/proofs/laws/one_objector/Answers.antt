use Rattle.fill_session.proofs.Objecting.{objector_is_one}
use Rattle.fill_session.proofs.laws.one_objector.Goals as goal

pub returns : goal.returns
returns c = objector_is_one
