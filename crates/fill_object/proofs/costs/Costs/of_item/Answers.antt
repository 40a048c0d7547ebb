use Rattle.std.proofs.Common.{subst, arith}
use Rattle.fill_arena.specs.Stands.{AtomFits}
use Rattle.fill_object.proofs.CostLaws.{constant_least, whole_least, sub_least}
use Rattle.fill_object.proofs.costs.Costs.of_item.Goals as goal

pub returns-in-Const-clause-least : goal.returns-in-Const-clause-least
returns-in-Const-clause-least c a h = constant_least c.args.prices.now c.args.arena.now c.in-Const.text c.least_text_cost.result c.least_text_cost.ensures a (subst (AtomFits a c.args.arena.now) c.in-Const.is h)

pub returns-in-Whole-clause-least : goal.returns-in-Whole-clause-least
returns-in-Whole-clause-least c a h =
    let own = c.from.ensures in
    let sum = c.sum_of.ensures in
    whole_least c.args.prices.now c.args.arena.now c.in-Whole.sources c.least_source_cost-source.result c.sum_of.result c.sources.result.now c.sources.ensures (c.least_source_cost-source.ensures c.args.arena.now)
    (omega arith) a (subst (AtomFits a c.args.arena.now) c.in-Whole.is h)

pub returns-in_ok-right-in-Sub-clause-least : goal.returns-in_ok-right-in-Sub-clause-least
returns-in_ok-right-in-Sub-clause-least c a h =
    let own = c.from-in-Sub.ensures in
    let piece = c.sum_of-piece.ensures in
    let first = c.sum_of-in-Sub.ensures in
    let sum = c.sum_of-in-Sub-2.ensures in
    sub_least c.args.prices.now c.args.arena.now c.in-Sub.sources c.in-Sub.lefts c.in-Sub.rights c.least_source_cost-source-in-Sub.result c.sum_of-in-Sub-2.result c.in_ok-left-in-Sub.left c.in_ok-right-in-Sub.right
    c.sources-in-Sub.result.now c.sources-in-Sub.ensures (c.least_source_cost-source-in-Sub.ensures c.args.arena.now) c.in_ok-left-in-Sub.ensures.least c.in_ok-right-in-Sub.ensures.least
    (omega arith) a (subst (AtomFits a c.args.arena.now) c.in-Sub.is h)
