use Rattle.fill_session.proofs.Answering.{switch_made}
use Rattle.fill_session.proofs.answers.switch_from.Goals as goal

pub returns-in_ok-last-in-Some : goal.returns-in_ok-last-in-Some
returns-in_ok-last-in-Some c =
    switch_made c.args.shown.now c.in-Some.others.now c.in-Some.last.now c.in_ok-cases-in-Some.cases c.in_ok-last-in-Some.last c.in-Some.ensures.cases.0 c.in_ok-cases-in-Some.ensures c.in_ok-last-in-Some.ensures
