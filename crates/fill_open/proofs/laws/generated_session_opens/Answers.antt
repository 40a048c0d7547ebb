use Rattle.fill_open.proofs.MadeOpens.{generated_opens}
use Rattle.fill_open.proofs.laws.generated_session_opens.Goals as goal

pub returns : goal.returns
returns c = generated_opens
