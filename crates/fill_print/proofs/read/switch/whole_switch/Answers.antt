use Rattle.std.proofs.Common.{codes}
use Rattle.fill_print.specs.Programs.{ProgramFront}
use Rattle.fill_print.specs.Reading.{Plain}
use Rattle.fill_print.specs.Switches.{Cases, CaseStep, one_less}
use Rattle.fill_print.proofs.Chains.{exit, both, done, in_first, in_rest, both_spelled, gives_spelled, plain_one, plain_spelled}
use Rattle.fill_print.proofs.ProgramRules.{program_one, program_spelled}
use Rattle.fill_print.proofs.Chains.{many_one}
use Rattle.fill_print.proofs.SwitchRules.{cases_spelled, case_step_one}
use Rattle.fill_print.specs.Tokens.{tokens_of}
use Rattle.fill_print.proofs.read.switch.whole_switch.Goals as goal

pub returns-in_err-rest : goal.returns-in_err-rest
returns-in_err-rest c = exit _ _ _ _ (Plain (codes "Switch(")) c.args.bytes.now c.from_residual.ensures.1 c.in_err-rest.ensures
    (λ left h. in_first h (λ u. both_spelled (cases_spelled (tokens_of c.args.notation) 7) (λ cs. both_spelled (program_spelled (tokens_of c.args.notation)) (λ p. both_spelled (plain_spelled (codes ")")) (λ u. gives_spelled _)))))

pub returns-in_err-cases : goal.returns-in_err-cases
returns-in_err-cases c = exit _ _ _ _ (Cases (tokens_of c.args.notation) 7) c.in_ok-rest.rest.now c.from_residual-in_err-cases.ensures.1 c.in_err-cases.ensures
    (λ left h. in_rest (plain_one (codes "Switch(")) c.in_ok-rest.ensures (in_first h (λ cs. both_spelled (program_spelled (tokens_of c.args.notation)) (λ p. both_spelled (plain_spelled (codes ")")) (λ u. gives_spelled _)))))

pub returns-in_err-last : goal.returns-in_err-last
returns-in_err-last c = exit _ _ _ _ (ProgramFront (tokens_of c.args.notation)) c.in_ok-cases.rest.now c.from_residual-in_err-last.ensures.1 c.in_err-last.ensures
    (λ left h. in_rest (plain_one (codes "Switch(")) c.in_ok-rest.ensures (in_rest (many_one (CaseStep (tokens_of c.args.notation)) one_less (case_step_one (tokens_of c.args.notation)) 7) c.in_ok-cases.ensures (in_first h (λ p. both_spelled (plain_spelled (codes ")")) (λ u. gives_spelled _)))))

pub returns-in_err-rest-2 : goal.returns-in_err-rest-2
returns-in_err-rest-2 c = exit _ _ _ _ (Plain (codes ")")) c.in_ok-last.rest.now c.from_residual-in_err-rest-2.ensures.1 c.in_err-rest-2.ensures
    (λ left h. in_rest (plain_one (codes "Switch(")) c.in_ok-rest.ensures (in_rest (many_one (CaseStep (tokens_of c.args.notation)) one_less (case_step_one (tokens_of c.args.notation)) 7) c.in_ok-cases.ensures (in_rest (program_one (tokens_of c.args.notation)) c.in_ok-last.ensures (in_first h (λ u. gives_spelled _)))))

pub returns : goal.returns
returns c = both c.in_ok-rest.ensures (both c.in_ok-cases.ensures (both c.in_ok-last.ensures (both c.in_ok-rest-2.ensures done)))
