use Rattle.fill_guard.proofs.GuardOrder.{exact_literals}
use Rattle.fill_guard.proofs.laws.literals_are_ordered.Goals as goal

pub returns-clause-exact : goal.returns-clause-exact
returns-clause-exact c = λ a b h. exact_literals a b h
