use Rattle.std.proofs.Common.{codes, arith}
use Rattle.fill_print.specs.Grammar.{greatest}
use Rattle.fill_print.specs.Numbers.{Number}
use Rattle.fill_print.specs.Reading.{Plain}
use Rattle.fill_print.proofs.Chains.{exit, both, done, in_first, in_rest, both_spelled, gives_spelled, plain_one}
use Rattle.fill_print.proofs.Decimals.{number_spelled}
use Rattle.fill_print.proofs.Folds.{column_tree}
use Rattle.fill_print.proofs.read.sources.column.Goals as goal

pub returns-in_err-rest : goal.returns-in_err-rest
returns-in_err-rest c = exit _ _ _ _ (Plain (codes "Col(")) c.args.bytes.now c.from_residual.ensures.1 c.in_err-rest.ensures
    (λ left h. in_first h (λ u. both_spelled (number_spelled greatest 41 (omega arith)) (λ n. gives_spelled _)))

pub returns-in_err-column : goal.returns-in_err-column
returns-in_err-column c = exit _ _ _ _ (Number greatest 41) c.in_ok-rest.rest.now c.from_residual-in_err-column.ensures.1 c.in_err-column.ensures
    (λ left h. in_rest (plain_one (codes "Col(")) c.in_ok-rest.ensures (in_first h (λ n. gives_spelled _)))

pub returns : goal.returns
returns c = rw (column_tree c.in_ok-column.column) (both c.in_ok-rest.ensures (both c.in_ok-column.ensures done))
