use Rattle.std.proofs.Common.{◌⊎◌, ◌≡◌, take}
use Rattle.std.specs.Prelude.{Contains}
use Rattle.fill_best.specs.Costs.{by_cost, linked}
use Rattle.fill_best.specs.First.{AreFirst, IsMade}
use Rattle.fill_best.proofs.first.put_row.Given as goal

abbrev pub invariant-loop-second : goal.invariant-loop-second
invariant-loop-second g l = AreFirst (by_cost g.T.Ordered.order)
    (λ z. Contains l.initial.ranking.items z ⊎ IsMade (linked g.T.Composite.composite l.link) (λ x. x ≡ l.first) (Contains (take l.second-index l.seconds)) z) l.limit l.ranking.items
