use Rattle.fill_print.proofs.Dispatch.{reads_else, reads_behind}
use Rattle.fill_print.proofs.GuardRules.{second_some, second_none}
use Rattle.fill_print.specs.Tokens.{tokens_of}
use Rattle.fill_print.proofs.read.guards.second.Goals as goal

pub returns-in-Some : goal.returns-in-Some
returns-in-Some c = reads_behind (λ x. x.0) (λ x. x.1.now) 38 c.args.bytes.now c.in-Some.rest.now c.second_literal.result (second_some (tokens_of c.args.notation)) c.in-Some.ensures c.second_literal.ensures

pub returns-in-None : goal.returns-in-None
returns-in-None c = reads_else (λ x. x.0) (λ x. x.1.now) 38 c.args.bytes.now c.no_second.result (second_none (tokens_of c.args.notation)) c.in-None.ensures c.no_second.ensures
