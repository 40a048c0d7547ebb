use Rattle.std.proofs.Common.{◌+◌, sym, subst, arith}
use Rattle.fill_tree.specs.Cost.{atom_cost}
use Rattle.fill_arena.specs.Stands.{AtomFits}
use Rattle.fill_rank.specs.LowerBounds.{IsLowerBound}
use Rattle.fill_rank.proofs.LowerBounds.{constant_bound, whole_bound, sub_bound}
use Rattle.fill_rank.proofs.bounds.Bounds.of_item.Goals as goal

pub returns-in-Const-clause-least : goal.returns-in-Const-clause-least
returns-in-Const-clause-least c =
    let prices = c.args.prices.now in
    let arena = c.args.arena.now in
    subst (λ i. IsLowerBound (atom_cost prices) (λ a. AtomFits a arena i) c.from.result) (sym c.in-Const.is) (constant_bound prices arena _ c.from.result (omega (arith, c.from.ensures)))

pub returns-in-Whole-clause-least : goal.returns-in-Whole-clause-least
returns-in-Whole-clause-least c =
    let prices = c.args.prices.now in
    let arena = c.args.arena.now in
    subst (λ i. IsLowerBound (atom_cost prices) (λ a. AtomFits a arena i) (c.from-in-Whole.result + c.from-source.result)) (sym c.in-Whole.is) (whole_bound prices arena c.from-source.result (omega (arith, c.from-source.ensures, c.min.ensures)) (omega (arith, c.from-source.ensures, c.min.ensures)) _ (c.from-in-Whole.result + c.from-source.result) (omega (arith, c.from-in-Whole.ensures)))

pub returns-in-Sub-clause-least : goal.returns-in-Sub-clause-least
returns-in-Sub-clause-least c =
    let prices = c.args.prices.now in
    let arena = c.args.arena.now in
    subst (λ i. IsLowerBound (atom_cost prices) (λ a. AtomFits a arena i) c.saturating_add-in-Sub.result) (sym c.in-Sub.is) (sub_bound prices arena c.from-source.result (omega (arith, c.from-source.ensures, c.min.ensures)) (omega (arith, c.from-source.ensures, c.min.ensures)) _ _ _ c.of_places-left.result c.of_places-right.result c.saturating_add-in-Sub.result (omega (arith, c.from-in-Sub.ensures, c.saturating_add.ensures, c.saturating_add-in-Sub.ensures)) c.of_places-left.ensures.least c.of_places-right.ensures.least)
