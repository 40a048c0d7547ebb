use Rattle.fill_report.proofs.Spelled.{switch_spelled}
use Rattle.fill_report.proofs.laws.switch_is_spelled.Goals as goal

pub returns : goal.returns
returns c = switch_spelled
