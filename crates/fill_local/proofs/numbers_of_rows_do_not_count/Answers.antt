use Rattle.fill_local.proofs.Renumbering.{answer_renumbered, branches_renumbered, objector_renumbered}
use Rattle.fill_local.proofs.numbers_of_rows_do_not_count.Goals as goal

pub returns-clause-branches : goal.returns-clause-branches
returns-clause-branches c = λ g h number examples branches are. branches_renumbered g h number examples branches are

pub returns-clause-answers : goal.returns-clause-answers
returns-clause-answers c = λ g h number examples row a are. answer_renumbered g h number examples row are a

pub returns-clause-objectors : goal.returns-clause-objectors
returns-clause-objectors c = λ g h number examples row found are. objector_renumbered g h number examples row are found
