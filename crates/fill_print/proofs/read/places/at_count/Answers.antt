use Rattle.std.proofs.Common.{codes, true, rules, sym, subst, w32, FitsSigned}
use Rattle.std.proofs.lemmas.Int.{to_z-of_z}
use Rattle.fill_tokens.specs.declared.place.Place.TheVariants.{CPos}
use Rattle.fill_print.specs.Grammar.{AtCount}
use Rattle.fill_print.specs.Ints.{Int}
use Rattle.fill_print.specs.Reading.{Plain, Takes}
use Rattle.fill_print.proofs.Chains.{exit, both, done, in_first, in_rest, both_spelled, gives_spelled, plain_one}
use Rattle.fill_print.proofs.Signs.{int_spelled}
use Rattle.fill_print.proofs.read.places.at_count.Goals as goal

pub returns-in_err-rest : goal.returns-in_err-rest
returns-in_err-rest c = exit _ _ _ _ (Plain (codes "CPos(")) c.args.bytes.now c.from_residual.ensures.1 c.in_err-rest.ensures
    (λ left h. in_first h (λ u. both_spelled (int_spelled true 41) (λ z. gives_spelled _)))

pub returns-in_err-count : goal.returns-in_err-count
returns-in_err-count c = exit _ _ _ _ (Int true 41) c.in_ok-rest.rest.now c.from_residual-in_err-count.ensures.1 c.in_err-count.ensures
    (λ left h. in_rest (plain_one (codes "CPos(")) c.in_ok-rest.ensures (in_first h (λ z. gives_spelled _)))

pub returns : goal.returns
returns c =
    let fits : FitsSigned w32 c.in_ok-count.count = search rules in
    subst (λ z. Takes AtCount c.args.bytes.now (CPos z) c.in_ok-count.rest.now) (sym (to_z-of_z w32 c.in_ok-count.count fits)) (both c.in_ok-rest.ensures (both c.in_ok-count.ensures done))
