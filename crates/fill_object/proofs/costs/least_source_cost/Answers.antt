use Rattle.std.proofs.Common.{◌≤◌, arith}
use Rattle.fill_tree.specs.Cost.{source_cost}
use Rattle.fill_tree.specs.Tree.{SourceTree}
use Rattle.fill_arena.specs.Stands.{SourceFits}
use Rattle.fill_arena.proofs.Scan.{here}
use Rattle.fill_object.proofs.Below.{below_more, below_end}
use Rattle.fill_object.proofs.costs.least_source_cost.Goals as goal

pub loop-item-preserved : goal.loop-item-preserved
loop-item-preserved c cs =
    let items = c.args.items.now in
    let i = c.loop-item.item-index in
    let y = c.item-item.result in
    let first = c.lesser_cost-least.ensures.first in
    let second = c.lesser_cost-least.ensures.second in
    below_more (λ j. (x : SourceTree) → SourceFits x cs j → c.loop-item.least ≤ source_cost c.args.prices.now x) (λ j. (x : SourceTree) → SourceFits x cs j → c.lesser_cost-least.result ≤ source_cost c.args.prices.now x)
    items i y (here items i y c.loop-item-test.true c.item-item.is) (λ j all x fits. let le = all x fits in omega arith) (c.loop-item.invariant cs) (λ x fits. let le = c.item_source_cost.ensures cs x fits in omega arith)

pub returns : goal.returns
returns c cs = below_end (λ j. (x : SourceTree) → SourceFits x cs j → c.loop-item.least ≤ source_cost c.args.prices.now x) c.args.items.now c.loop-item.item-index c.loop-item-test.false (c.loop-item.invariant cs)
