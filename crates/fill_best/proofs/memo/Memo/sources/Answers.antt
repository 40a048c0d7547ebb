use Rattle.fill_tree.specs.Cost.{source_cost}
use Rattle.fill_tree.specs.Order.{source_cmp}
use Rattle.fill_arena.specs.Stands.{SourceStands}
use Rattle.fill_best.specs.Cheapest.{AreCheapest}
use Rattle.fill_arena.proofs.Maps.{found_right}
use Rattle.fill_best.proofs.memo.Memo.sources.Goals as goal

pub returns : goal.returns
returns c prices cs k memo = found_right (λ o. AreCheapest (source_cost prices) source_cmp (SourceStands cs c.args.s) k o.value.items) _ _ c.get.ensures.value (memo.sources c.args.s)
