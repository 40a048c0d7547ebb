use Rattle.std.proofs.Common.{codes}
use Rattle.fill_print.specs.Programs.{ProgramFront}
use Rattle.fill_print.specs.Grammar.{WholeCase}
use Rattle.fill_print.specs.Reading.{Plain}
use Rattle.fill_print.specs.Switches.{LiteralFront, SecondFront}
use Rattle.fill_print.proofs.Chains.{exit, fails_in, both, done, in_first, in_rest, both_spelled, gives_spelled, plain_spelled}
use Rattle.fill_print.proofs.GuardRules.{literal_one, second_one, second_spelled}
use Rattle.fill_print.proofs.ProgramRules.{program_one, program_spelled}
use Rattle.fill_print.specs.Tokens.{tokens_of}
use Rattle.fill_print.proofs.read.switch.case.Goals as goal

pub returns-in-Err : goal.returns-in-Err
returns-in-Err c = fails_in (LiteralFront (tokens_of c.args.notation)) (WholeCase (tokens_of c.args.notation)) c.args.bytes.now c.args.bytes.now c.in-Err.e
    (λ left h. in_first h (λ l. both_spelled (second_spelled (tokens_of c.args.notation)) (λ o. both_spelled (program_spelled (tokens_of c.args.notation)) (λ p. both_spelled (plain_spelled (codes ";")) (λ u. gives_spelled _))))) c.in-Err.ensures

pub returns-in-Err-second : goal.returns-in-Err-second
returns-in-Err-second c = fails_in (SecondFront (tokens_of c.args.notation)) (WholeCase (tokens_of c.args.notation)) c.in-Ok.read.1.now c.args.bytes.now c.in-Err-second.e
    (λ left h. in_rest (literal_one (tokens_of c.args.notation)) c.in-Ok.ensures (in_first h (λ o. both_spelled (program_spelled (tokens_of c.args.notation)) (λ p. both_spelled (plain_spelled (codes ";")) (λ u. gives_spelled _))))) c.in-Err-second.ensures

pub returns-in_err-program : goal.returns-in_err-program
returns-in_err-program c = exit _ _ _ _ (ProgramFront (tokens_of c.args.notation)) c.in-Ok-second.read.1.now c.from_residual.ensures.1 c.in_err-program.ensures
    (λ left h. in_rest (literal_one (tokens_of c.args.notation)) c.in-Ok.ensures (in_rest (second_one (tokens_of c.args.notation)) c.in-Ok-second.ensures (in_first h (λ p. both_spelled (plain_spelled (codes ";")) (λ u. gives_spelled _)))))

pub returns-in_err-rest : goal.returns-in_err-rest
returns-in_err-rest c = exit _ _ _ _ (Plain (codes ";")) c.in_ok-program.rest.now c.from_residual-in_err-rest.ensures.1 c.in_err-rest.ensures
    (λ left h. in_rest (literal_one (tokens_of c.args.notation)) c.in-Ok.ensures (in_rest (second_one (tokens_of c.args.notation)) c.in-Ok-second.ensures (in_rest (program_one (tokens_of c.args.notation)) c.in_ok-program.ensures (in_first h (λ u. gives_spelled _)))))

pub returns : goal.returns
returns c = both c.in-Ok.ensures (both c.in-Ok-second.ensures (both c.in_ok-program.ensures (both c.in_ok-rest.ensures done)))
