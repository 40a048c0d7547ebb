use Rattle.fill_print.specs.Grammar.{WholeCase}
use Rattle.fill_print.proofs.Chains.{exit, both, done, in_first, gives_spelled}
use Rattle.fill_print.specs.Tokens.{tokens_of}
use Rattle.fill_print.proofs.read.switch.some_case.Goals as goal

pub returns-in_err-case : goal.returns-in_err-case
returns-in_err-case c = exit _ _ _ _ (WholeCase (tokens_of c.args.notation)) c.args.bytes.now c.from_residual.ensures.1 c.in_err-case.ensures
    (λ left h. in_first h (λ k. gives_spelled _))

pub returns : goal.returns
returns c = both c.in_ok-case.ensures done
