use Rattle.std.proofs.Common.{◌≡◌, ◌-◌, codes, arith, rules, sym, subst, ◌∙◌, to_z, of_z, w32, FitsSigned}
use Rattle.std.proofs.lemmas.Int.{to_z-of_z}
use Rattle.std.specs.Prelude.{negsuc}
use Rattle.fill_print.specs.Ints.{Negative}
use Rattle.fill_print.specs.Reading.{Plain, Takes}
use Rattle.fill_print.specs.Numbers.{Number}
use Rattle.fill_print.proofs.Chains.{exit, both, done, chains, in_rest, in_first, plain_one, gives_spelled}
use Rattle.fill_print.proofs.Decimals.{number_spelled}
use Rattle.fill_print.proofs.read.ints.negative.Goals as goal

pub returns-in_err-rest : goal.returns-in_err-rest
returns-in_err-rest c = exit _ _ _ _ (Plain (codes "-")) c.args.bytes.now c.from_residual.ensures.1 c.in_err-rest.ensures (λ left h. let n = number_spelled 2147483648 c.args.last (omega arith) in search chains)

pub returns-in_err-size : goal.returns-in_err-size
returns-in_err-size c = exit _ _ _ _ (Number 2147483648 c.args.last) c.in_ok-rest.rest.now c.from_residual-in_err-size.ensures.1 c.in_err-size.ensures (λ left h. in_rest (plain_one (codes "-")) c.in_ok-rest.ensures (in_first h (λ n. gives_spelled _)))

pub returns : goal.returns
returns c =
    let fits : FitsSigned w32 c.negated.result = search rules in
    let value : to_z w32 (of_z w32 c.negated.result) ≡ negsuc (c.in_ok-size.size - 1) = to_z-of_z w32 c.negated.result fits ∙ c.negated.ensures in
    subst (λ x. Takes (Negative c.args.last) c.args.bytes.now x c.in_ok-size.rest.now) (sym value) (both c.in_ok-rest.ensures (both c.in_ok-size.ensures done))
