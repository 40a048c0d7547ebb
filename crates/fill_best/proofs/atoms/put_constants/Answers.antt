use Rattle.fill_arena.proofs.Scan.{here}
use Rattle.fill_arena.specs.Contents.{SomeIn}
use Rattle.fill_tree.specs.Cost.{atom_cost}
use Rattle.fill_tree.specs.Order.{atom_cmp}
use Rattle.fill_tree.proofs.TreeOrder.{atom_total, exact_atoms}
use Rattle.fill_arena.specs.Stands.{ConstantFits}
use Rattle.fill_best.proofs.Takes.{scan_none, scan_more, scan_done}
use Rattle.fill_best.proofs.atoms.put_constants.Goals as goal

pub loop-item-init : goal.loop-item-init
loop-item-init c cs =
    scan_none (atom_cost c.args.prices.now) atom_cmp atom_total exact_atoms c.args.limit (λ y a. ConstantFits cs y a) c.args.items.now c.args.ranking.now.items c.requires.rising c.requires.few

pub loop-item-preserved : goal.loop-item-preserved
loop-item-preserved c cs =
    let items = c.args.items.now in
    let i = c.loop-item.item-index in
    let x = c.item-item.result in
    scan_more (atom_cost c.args.prices.now) atom_cmp atom_total exact_atoms c.args.limit (λ y a. ConstantFits cs y a) items i x c.args.ranking.now.items c.loop-item.ranking.items c.put_constant.new.ranking.items
    (here items i x c.loop-item-test.true c.item-item.is) (c.loop-item.invariant cs) (c.in_ok-put_constant.ensures cs)

pub put_constant-requires-clause-item : goal.put_constant-requires-clause-item
put_constant-requires-clause-item c =
    let h = c.requires.items in
    (h.0, h.1, h.2 c.loop-item.item-index c.item-item.result (here c.args.items.now c.loop-item.item-index c.item-item.result c.loop-item-test.true c.item-item.is))

pub put_constant-requires-clause-rising : goal.put_constant-requires-clause-rising
put_constant-requires-clause-rising c = (c.loop-item.invariant c.requires.items.0).rising

pub put_constant-requires-clause-few : goal.put_constant-requires-clause-few
put_constant-requires-clause-few c = (c.loop-item.invariant c.requires.items.0).few

pub returns : goal.returns
returns c cs =
    scan_done (atom_cost c.args.prices.now) atom_cmp atom_total exact_atoms c.args.limit (λ y a. ConstantFits cs y a) c.args.items.now (λ a. SomeIn (λ i. ConstantFits cs i a) c.args.items.now) c.loop-item.item-index
    c.args.ranking.now.items c.loop-item.ranking.items (λ a h. h) (λ a h. h) c.loop-item-test.false (c.loop-item.invariant cs)
