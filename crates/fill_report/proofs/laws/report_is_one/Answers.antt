use Rattle.fill_report.proofs.Unique.{report_is_one}
use Rattle.fill_report.proofs.laws.report_is_one.Goals as goal

pub returns : goal.returns
returns c = report_is_one
