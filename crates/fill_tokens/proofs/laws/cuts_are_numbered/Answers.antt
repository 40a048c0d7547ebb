use Rattle.fill_tokens.proofs.CutLaws.{from_left, from_right}
use Rattle.fill_tokens.proofs.ListsExist.{cuts_exist}
use Rattle.fill_tokens.proofs.laws.cuts_are_numbered.Goals as goal

pub returns-clause-listed : goal.returns-clause-listed
returns-clause-listed c = cuts_exist

pub returns-clause-left : goal.returns-clause-left
returns-clause-left c = from_left

pub returns-clause-right : goal.returns-clause-right
returns-clause-right c = from_right
