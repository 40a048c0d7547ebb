use Rattle.std.proofs.Common.{codes}
use Rattle.fill_print.specs.Reading.{Plain}
use Rattle.fill_print.specs.Texts.{Quoted}
use Rattle.fill_print.proofs.Chains.{exit, both, done, in_first, in_rest, both_spelled, gives_spelled, plain_one, plain_spelled}
use Rattle.fill_print.proofs.Folds.{constant_tree}
use Rattle.fill_print.proofs.Quotes.{quoted_one, quoted_spelled}
use Rattle.fill_print.proofs.read.sources.constant.Goals as goal

pub returns-in_err-rest : goal.returns-in_err-rest
returns-in_err-rest c = exit _ _ _ _ (Plain (codes "Const('")) c.args.bytes.now c.from_residual.ensures.1 c.in_err-rest.ensures
    (λ left h. in_first h (λ u. both_spelled (quoted_spelled c.args.may_be_empty) (λ t. both_spelled (plain_spelled (codes ")")) (λ u. gives_spelled _))))

pub returns-in_err-text : goal.returns-in_err-text
returns-in_err-text c = exit _ _ _ _ (Quoted c.args.may_be_empty) c.in_ok-rest.rest.now c.from_residual-in_err-text.ensures.1 c.in_err-text.ensures
    (λ left h. in_rest (plain_one (codes "Const('")) c.in_ok-rest.ensures (in_first h (λ t. both_spelled (plain_spelled (codes ")")) (λ u. gives_spelled _))))

pub returns-in_err-rest-2 : goal.returns-in_err-rest-2
returns-in_err-rest-2 c = exit _ _ _ _ (Plain (codes ")")) c.in_ok-text.rest.now c.from_residual-in_err-rest-2.ensures.1 c.in_err-rest-2.ensures
    (λ left h. in_rest (plain_one (codes "Const('")) c.in_ok-rest.ensures (in_rest (quoted_one c.args.may_be_empty) c.in_ok-text.ensures (in_first h (λ u. gives_spelled _))))

pub returns : goal.returns
returns c = rw (constant_tree c.in_ok-text.text) (both c.in_ok-rest.ensures (both c.in_ok-text.ensures (both c.in_ok-rest-2.ensures done)))
