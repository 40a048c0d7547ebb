use Rattle.fill_print.proofs.Dispatch.{reads_else, reads_behind}
use Rattle.fill_print.proofs.GuardRules.{literal_negated, literal_plain}
use Rattle.fill_print.specs.Tokens.{tokens_of}
use Rattle.fill_print.proofs.read.guards.literal.Goals as goal

pub returns-in-Some : goal.returns-in-Some
returns-in-Some c = reads_behind (λ x. x.0) (λ x. x.1.now) 33 c.args.bytes.now c.in-Some.rest.now c.matched.result (literal_negated (tokens_of c.args.notation)) c.in-Some.ensures c.matched.ensures

pub returns-in-None : goal.returns-in-None
returns-in-None c = reads_else (λ x. x.0) (λ x. x.1.now) 33 c.args.bytes.now c.matched-in-None.result (literal_plain (tokens_of c.args.notation)) c.in-None.ensures c.matched-in-None.ensures
