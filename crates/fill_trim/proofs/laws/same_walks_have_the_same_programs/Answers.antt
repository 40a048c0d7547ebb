use Rattle.fill_trim.proofs.Programs.{same_walks, trimmed_walks}
use Rattle.fill_trim.proofs.laws.same_walks_have_the_same_programs.Goals as goal

pub returns-clause-walks : goal.returns-clause-walks
returns-clause-walks h = λ xs ys from to at last same c p. same_walks xs ys from to at last same c p

pub returns-clause-trimmed : goal.returns-clause-trimmed
returns-clause-trimmed h = λ nodes edges t is c p. trimmed_walks nodes edges t is c p
