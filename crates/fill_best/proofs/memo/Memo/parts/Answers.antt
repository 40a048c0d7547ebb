use Rattle.fill_tree.specs.Cost.{atom_cost}
use Rattle.fill_tree.specs.Order.{atom_cmp}
use Rattle.fill_arena.specs.Stands.{PartStands}
use Rattle.fill_best.specs.Cheapest.{AreCheapest}
use Rattle.fill_arena.proofs.Maps.{found_right}
use Rattle.fill_best.proofs.memo.Memo.parts.Goals as goal

pub returns : goal.returns
returns c prices cs k memo = found_right (λ o. AreCheapest (atom_cost prices) atom_cmp (PartStands cs c.args.s) k o.value.items) _ _ c.get.ensures.value (memo.parts c.args.s)
