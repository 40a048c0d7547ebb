use Rattle.std.proofs.Common.{codes, true}
use Rattle.fill_print.specs.Programs.{ProgramAtoms}
use Rattle.fill_print.specs.Reading.{Plain}
use Rattle.fill_print.proofs.Chains.{exit, both, done, in_first, in_rest, both_spelled, gives_spelled, plain_one}
use Rattle.fill_print.proofs.ProgramRules.{atoms_spelled}
use Rattle.fill_print.specs.Tokens.{tokens_of}
use Rattle.fill_print.proofs.read.programs.whole_program.Goals as goal

pub returns-in_err-rest : goal.returns-in_err-rest
returns-in_err-rest c = exit _ _ _ _ (Plain (codes "Concat(")) c.args.bytes.now c.from_residual.ensures.1 c.in_err-rest.ensures
    (λ left h. in_first h (λ u. both_spelled (atoms_spelled (tokens_of c.args.notation) true) (λ xs. gives_spelled _)))

pub returns-in_err-atoms : goal.returns-in_err-atoms
returns-in_err-atoms c = exit _ _ _ _ (ProgramAtoms (tokens_of c.args.notation) true) c.in_ok-rest.rest.now c.from_residual-in_err-atoms.ensures.1 c.in_err-atoms.ensures
    (λ left h. in_rest (plain_one (codes "Concat(")) c.in_ok-rest.ensures (in_first h (λ xs. gives_spelled _)))

pub returns : goal.returns
returns c = both c.in_ok-rest.ensures (both c.in_ok-atoms.ensures done)
