use Rattle.fill_session.proofs.OneOutcome.{moves_are_one, outcome_is_one}
use Rattle.fill_session.proofs.laws.one_outcome.Goals as goal

pub returns : goal.returns
returns c = record { outcome = outcome_is_one; moves = moves_are_one }
