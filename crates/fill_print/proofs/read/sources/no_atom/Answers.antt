use Rattle.std.proofs.Common.{codes}
use Rattle.fill_print.specs.Reading.{Plain}
use Rattle.fill_print.proofs.Chains.{exit, both, done, in_first, gives_spelled}
use Rattle.fill_print.proofs.read.sources.no_atom.Goals as goal

pub returns-in_err-rest : goal.returns-in_err-rest
returns-in_err-rest c = exit _ _ _ _ (Plain (codes ")")) c.args.bytes.now c.from_residual.ensures.1 c.in_err-rest.ensures
    (λ left h. in_first h (λ u. gives_spelled _))

pub returns : goal.returns
returns c = both c.in_ok-rest.ensures done
