use Rattle.fill_tokens.proofs.CutLaws.{matches_counted}
use Rattle.fill_tokens.proofs.ListsExist.{matches_exist}
use Rattle.fill_tokens.proofs.laws.matches_are_counted.Goals as goal

pub returns-clause-listed : goal.returns-clause-listed
returns-clause-listed c = matches_exist

pub returns-clause-counted : goal.returns-clause-counted
returns-clause-counted c = matches_counted
