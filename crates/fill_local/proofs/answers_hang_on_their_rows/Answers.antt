use Rattle.fill_local.proofs.Keeping.{answer_kept, objector_kept}
use Rattle.fill_local.proofs.answers_hang_on_their_rows.Goals as goal

pub returns-clause-answers : goal.returns-clause-answers
returns-clause-answers c = λ g h examples row a same kept. answer_kept g h same examples row kept a

pub returns-clause-objectors : goal.returns-clause-objectors
returns-clause-objectors c = λ g h examples row found same kept. objector_kept g h same examples row kept found
