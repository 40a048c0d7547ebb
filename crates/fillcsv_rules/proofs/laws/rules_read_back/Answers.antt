use Rattle.fillcsv_rules.proofs.Back.{read_back_rule}
use Rattle.fillcsv_rules.proofs.laws.rules_read_back.Goals as goal

pub returns : goal.returns
returns c = λ r is named switch. read_back_rule r is named switch
