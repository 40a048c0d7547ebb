use Rattle.fill_space.proofs.Best.{best_are_one, best_begins}
use Rattle.fill_space.proofs.laws.best_programs_are_one.Goals as goal

pub returns-clause-one : goal.returns-clause-one
returns-clause-one c = best_are_one

pub returns-clause-chosen : goal.returns-clause-chosen
returns-clause-chosen c = best_begins
