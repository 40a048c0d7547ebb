use Rattle.std.proofs.Common.{◌≤◌, arith}
use Rattle.fill_tree.specs.Cost.{atom_cost}
use Rattle.fill_tree.specs.Tree.{AtomTree}
use Rattle.fill_arena.specs.Stands.{AtomFits}
use Rattle.fill_arena.specs.declared.entry.Entry.TheVariants.{Atoms}
use Rattle.fill_arena.proofs.Scan.{here}
use Rattle.fill_object.proofs.Below.{below_more, below_end}
use Rattle.fill_object.proofs.CostLaws.{atoms_least}
use Rattle.fill_object.proofs.costs.Costs.of_atoms.Goals as goal

pub of_item-requires-clause-item : goal.of_item-requires-clause-item
of_item-requires-clause-item c =
    let items = c.atoms-items.result.now in
    let i = c.loop-item.item-index in
    let x = c.item-item.result in
    (c.args.s, (c.keeps_made.ensures c.args.s (Atoms items) c.atoms-items.ensures).each i x (here items i x c.loop-item-test.true c.item-item.is))

pub loop-item-preserved : goal.loop-item-preserved
loop-item-preserved c =
    let items = c.atoms-items.result.now in
    let i = c.loop-item.item-index in
    let x = c.item-item.result in
    let first = c.lesser_cost-least.ensures.first in
    let second = c.lesser_cost-least.ensures.second in
    record {
      memo = c.in_ok-own.ensures.memo;
      costs = below_more (λ j. (a : AtomTree) → AtomFits a c.args.arena.now j → c.loop-item.least ≤ atom_cost c.args.prices.now a) (λ j. (a : AtomTree) → AtomFits a c.args.arena.now j → c.lesser_cost-least.result ≤ atom_cost c.args.prices.now a)
          items i x (here items i x c.loop-item-test.true c.item-item.is) (λ j all a fits. let le = all a fits in omega arith) c.loop-item.invariant.costs (λ a fits. let le = c.in_ok-own.ensures.least a fits in omega arith);
    }

pub returns-clause-least : goal.returns-clause-least
returns-clause-least c =
    let items = c.atoms-items.result.now in
    atoms_least c.args.prices.now c.args.arena.now c.args.s c.loop-item.least items c.atoms-items.ensures
    (below_end (λ j. (a : AtomTree) → AtomFits a c.args.arena.now j → c.loop-item.least ≤ atom_cost c.args.prices.now a) items c.loop-item.item-index c.loop-item-test.false c.loop-item.invariant.costs)
