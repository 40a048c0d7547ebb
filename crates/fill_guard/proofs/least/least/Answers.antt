use Rattle.std.proofs.lemmas.Option.{MatchOption-at_none, MatchOption-at_some}
use Rattle.std.proofs.Common.{length}
use Rattle.fill_guard.specs.Least.{NoneAlone, IsFirstAlone}
use Rattle.fill_guard.proofs.LeastLaws.{alone_least, least_of_pair}
use Rattle.fill_guard.proofs.least.least.Goals as goal

pub returns-in-Some : goal.returns-in-Some
returns-in-Some c = λ settings sheet inside outside are. alone_least settings sheet inside outside c.args.candidates.now are c.in-Some.first
    (MatchOption-at_some (NoneAlone c.args.candidates.now (length c.args.candidates.now)) (IsFirstAlone c.args.candidates.now) c.in-Some.first c.in-Some.is c.first_alone.ensures)

pub returns-in-None : goal.returns-in-None
returns-in-None c = λ settings sheet inside outside are. least_of_pair settings sheet inside outside c.args.candidates.now are
    (MatchOption-at_none (NoneAlone c.args.candidates.now (length c.args.candidates.now)) (IsFirstAlone c.args.candidates.now) c.in-None.is c.first_alone.ensures)
    c.first_pair.result c.first_pair.ensures
