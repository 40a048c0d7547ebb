use Rattle.fill_guard.proofs.GuardOrder.{exact_guards}
use Rattle.fill_guard.proofs.laws.guards_are_ordered.Goals as goal

pub returns-clause-exact : goal.returns-clause-exact
returns-clause-exact c = λ a b h. exact_guards a b h
