use Rattle.fillcsv_rules.proofs.Alike.{of_cells}
use Rattle.fillcsv_rules.proofs.laws.values_are_of_cells.Goals as goal

pub returns : goal.returns
returns c = λ sheet tables row r s v is. of_cells sheet tables row r s v is
