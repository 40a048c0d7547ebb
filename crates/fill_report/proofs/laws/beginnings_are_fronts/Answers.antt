use Rattle.fill_report.proofs.Fronts.{beginning_is_front}
use Rattle.fill_report.proofs.laws.beginnings_are_fronts.Goals as goal

pub returns : goal.returns
returns c = beginning_is_front
