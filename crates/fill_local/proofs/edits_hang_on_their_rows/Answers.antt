use Rattle.fill_local.proofs.Editing.{changed_to, outcome_to}
use Rattle.fill_local.proofs.edits_hang_on_their_rows.Goals as goal

pub returns-clause-outcomes : goal.returns-clause-outcomes
returns-clause-outcomes c = λ g h number examples row text reason are. outcome_to g h number examples (record { row = row; text = text }) are reason

pub returns-clause-changes : goal.returns-clause-changes
returns-clause-changes c = λ g h number examples row text are. changed_to g h number examples (record { row = row; text = text }) are
