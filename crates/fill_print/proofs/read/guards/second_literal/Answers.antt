use Rattle.std.proofs.Common.{codes}
use Rattle.fill_print.specs.Grammar.{SecondLiteral}
use Rattle.fill_print.specs.Reading.{Plain}
use Rattle.fill_print.specs.Switches.{LiteralFront}
use Rattle.fill_print.proofs.Chains.{exit, fails_in, both, done, in_first, in_rest, both_spelled, gives_spelled, plain_spelled}
use Rattle.fill_print.proofs.GuardRules.{literal_one}
use Rattle.fill_print.specs.Tokens.{tokens_of}
use Rattle.fill_print.proofs.read.guards.second_literal.Goals as goal

pub returns-in-Err : goal.returns-in-Err
returns-in-Err c = fails_in (LiteralFront (tokens_of c.args.notation)) (SecondLiteral (tokens_of c.args.notation)) c.args.bytes.now c.args.bytes.now c.in-Err.e
    (λ left h. in_first h (λ l. both_spelled (plain_spelled (codes "=>")) (λ u. gives_spelled _))) c.in-Err.ensures

pub returns-in_err-rest : goal.returns-in_err-rest
returns-in_err-rest c = exit _ _ _ _ (Plain (codes "=>")) c.in-Ok.read.1.now c.from_residual.ensures.1 c.in_err-rest.ensures
    (λ left h. in_rest (literal_one (tokens_of c.args.notation)) c.in-Ok.ensures (in_first h (λ u. gives_spelled _)))

pub returns : goal.returns
returns c = both c.in-Ok.ensures (both c.in_ok-rest.ensures done)
