use Rattle.std.proofs.Common.{arith}
use Rattle.fill_object.proofs.CostLaws.{source_least}
use Rattle.fill_object.proofs.costs.item_source_cost.Goals as goal

pub returns-in-Col : goal.returns-in-Col
returns-in-Col c cs x h = let own = c.from.ensures in let is = c.in-Col.is in source_least c.args.prices.now cs c.args.item.now c.from.result (λ m e. omega arith) (λ y e. absurd cc) x h

pub returns-in-Select : goal.returns-in-Select
returns-in-Select c cs x h = let own = c.from-in-Select.ensures in let is = c.in-Select.is in source_least c.args.prices.now cs c.args.item.now c.from-in-Select.result (λ m e. absurd cc) (λ y e. omega arith) x h
