use Rattle.fill_session.proofs.OneAnswer.{answer_is_one}
use Rattle.fill_session.proofs.laws.one_answer.Goals as goal

pub returns : goal.returns
returns c = answer_is_one
