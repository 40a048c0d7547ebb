use Rattle.fill_session.proofs.OneFate.{branches_are_one, fate_is_one}
use Rattle.fill_session.proofs.laws.one_fate.Goals as goal

pub returns : goal.returns
returns c = record { fate = fate_is_one; branches = branches_are_one }
