use Rattle.fill_print.specs.Programs.{ProgramAtom}
use Rattle.fill_print.proofs.Chains.{exit, both, done, in_first, gives_spelled}
use Rattle.fill_print.specs.Tokens.{tokens_of}
use Rattle.fill_print.proofs.read.programs.some_atom.Goals as goal

pub returns-in_err-atom : goal.returns-in_err-atom
returns-in_err-atom c = exit _ _ _ _ (ProgramAtom (tokens_of c.args.notation)) c.args.bytes.now c.from_residual.ensures.1 c.in_err-atom.ensures
    (λ left h. in_first h (λ a. gives_spelled _))

pub returns : goal.returns
returns c = both c.in_ok-atom.ensures done
