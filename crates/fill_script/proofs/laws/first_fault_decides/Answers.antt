use Rattle.fill_script.proofs.Later.{later_lines}
use Rattle.fill_script.proofs.laws.first_fault_decides.Goals as goal

pub returns : goal.returns
returns c = later_lines
