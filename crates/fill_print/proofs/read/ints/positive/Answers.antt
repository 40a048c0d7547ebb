use Rattle.fill_print.specs.Numbers.{Number}
use Rattle.fill_print.proofs.Chains.{exit, in_first, gives_spelled}
use Rattle.fill_print.proofs.read.ints.positive.Goals as goal

pub returns-in_err-size : goal.returns-in_err-size
returns-in_err-size c = exit _ _ _ _ (Number 2147483647 c.args.last) c.args.bytes.now c.from_residual.ensures.1 c.in_err-size.ensures (λ left h. in_first h (λ n. gives_spelled _))
