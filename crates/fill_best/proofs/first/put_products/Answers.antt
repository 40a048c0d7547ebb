use Rattle.std.proofs.Common.{sym}
use Rattle.std.specs.Prelude.{Contains}
use Rattle.fill_best.specs.Costs.{by_cost, linked}
use Rattle.fill_best.proofs.Costs.{by_cost-total, by_cost-exact}
use Rattle.fill_best.proofs.Putting.{first_itself, rows_none, rows_more, rows_end}
use Rattle.fill_best.proofs.first.put_products.Goals as goal

pub loop-first-init : goal.loop-first-init
loop-first-init g c =
    let R = by_cost g.T.Ordered.order in
    let ranking = c.args.ranking.now.items in
    rows_none R (by_cost-total g.T.Ordered.order g.met.T.Ordered.total) (by_cost-exact g.T.Ordered.order g.met.T.Ordered.exact) (linked g.T.Composite.composite c.args.link) c.args.limit
    (Contains ranking) c.args.firsts.now c.args.seconds.now ranking (first_itself R c.args.limit ranking c.requires.rising c.requires.few)

pub put_row-requires-clause-cheap : goal.put_row-requires-clause-cheap
put_row-requires-clause-cheap g c = λ y within. c.requires.cheap c.first-item.result y (c.loop-first.first-index, c.loop-first-test.true, sym c.first-item.is) within

pub loop-first-preserved : goal.loop-first-preserved
loop-first-preserved g c =
    let R = by_cost g.T.Ordered.order in
    rows_more R (by_cost-total g.T.Ordered.order g.met.T.Ordered.total) (by_cost-exact g.T.Ordered.order g.met.T.Ordered.exact) (linked g.T.Composite.composite c.args.link) c.args.limit
    (Contains c.args.ranking.now.items) c.args.firsts.now c.args.seconds.now c.loop-first.first-index c.first-item.result c.loop-first.ranking.items c.put_row.new.ranking.items
    c.loop-first-test.true c.first-item.is c.loop-first.invariant c.in-Ok.ensures

pub returns : goal.returns
returns g c =
    rows_end (by_cost g.T.Ordered.order) (by_cost-total g.T.Ordered.order g.met.T.Ordered.total) (by_cost-exact g.T.Ordered.order g.met.T.Ordered.exact) (linked g.T.Composite.composite c.args.link)
    c.args.limit (Contains c.args.ranking.now.items) c.args.firsts.now c.args.seconds.now c.loop-first.first-index c.loop-first.ranking.items c.loop-first-test.false c.loop-first.invariant
