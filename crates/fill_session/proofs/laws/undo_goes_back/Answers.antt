use Rattle.fill_session.proofs.GoingBack.{redone_is, undone_is}
use Rattle.fill_session.proofs.laws.undo_goes_back.Goals as goal

pub returns : goal.returns
returns c = record { undone = undone_is; redone = redone_is }
