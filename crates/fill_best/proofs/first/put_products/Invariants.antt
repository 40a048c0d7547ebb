use Rattle.std.proofs.Common.{◌⊎◌, take}
use Rattle.std.specs.Prelude.{Contains}
use Rattle.fill_best.specs.Costs.{by_cost, linked}
use Rattle.fill_best.specs.First.{AreFirst, IsMade}
use Rattle.fill_best.proofs.first.put_products.Given as goal

abbrev pub invariant-loop-first : goal.invariant-loop-first
invariant-loop-first g l = AreFirst (by_cost g.T.Ordered.order)
    (λ z. Contains l.initial.ranking.items z ⊎ IsMade (linked g.T.Composite.composite l.link) (Contains (take l.first-index l.firsts)) (Contains l.seconds) z) l.limit l.ranking.items
