use Rattle.std.proofs.Common.{rules}
use Rattle.fill_doubt.proofs.read.Read.new.Goals as goal

pub returns-clause-right : goal.returns-clause-right
returns-clause-right c = λ entries. record { cuts = c.in_ok-cuts.ensures; spots = search (rules, c.new-2.ensures.empty) }
