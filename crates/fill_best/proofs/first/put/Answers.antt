use Rattle.std.proofs.Common.{◌≡◌, sym, ap, subst, take, ◌∙◌}
use Rattle.std.specs.List.{insert}
use Rattle.fill_best.specs.Costs.{by_cost}
use Rattle.fill_best.specs.First.{AreFirst, IsPlaceOf}
use Rattle.fill_best.proofs.Costs.{by_cost-total, by_cost-exact}
use Rattle.fill_best.proofs.Firsts.{first_inserted}
use Rattle.fill_best.proofs.first.put.Goals as goal

pub returns-clause-first : goal.returns-clause-first
returns-clause-first g c =
    let R = by_cost g.T.Ordered.order in
    let ranking = c.args.ranking.now.items in
    let at = c.in-Some.at in
    let place = subst (λ xs. IsPlaceOf R xs c.args.next at) c.as_slice.ensures.value c.in-Some.ensures in
    let made = first_inserted R (by_cost-total g.T.Ordered.order g.met.T.Ordered.total) (by_cost-exact g.T.Ordered.order g.met.T.Ordered.exact) c.args.limit at ranking c.args.next
    c.requires.rising place.low place.high in
    let inside : c.insert.new.self.items ≡ insert ranking at c.args.next = c.in-Ok.ensures.items in
    let whole : c.truncate.new.self.items ≡ take c.args.limit (insert ranking at c.args.next) = c.truncate.ensures.items ∙ ap (take c.args.limit) inside in
    subst (AreFirst R _ c.args.limit) (sym whole) made
