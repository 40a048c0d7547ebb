use Rattle.fill_session.proofs.Accepting.{others_accepted, present_accepted}
use Rattle.fill_session.proofs.laws.accepted_stay_accepted.Goals as goal

pub returns : goal.returns
returns c = record { present = present_accepted; others = others_accepted }
