use Rattle.std.proofs.Common.{arith}
use Rattle.fill_tree.specs.Cost.{atom_cost}
use Rattle.fill_arena.specs.Stands.{AtomFits, AtomStands}
use Rattle.fill_arena.specs.declared.entry.Entry.TheVariants.{Atoms}
use Rattle.fill_arena.proofs.Scan.{here}
use Rattle.fill_rank.proofs.LowerBounds.{atom_listed, bound_none, bound_step, bound_done}
use Rattle.fill_rank.proofs.bounds.Bounds.of_set.Goals as goal

pub loop-item-init : goal.loop-item-init
loop-item-init c = record { bounds = c.requires.bounds; least = bound_none (atom_cost c.args.prices.now) (λ x a. AtomFits a c.args.arena.now x) c.atoms-item-items.result.now _ }

pub of_item-requires : goal.of_item-requires
of_item-requires c =
    let items = c.atoms-item-items.result.now in
    let i = c.loop-item.item-index in
    let x = c.item-item.result in
    record { item = (c.args.s, (c.keeps_made.ensures c.args.s (Atoms items) c.atoms-item-items.ensures).each i x (here items i x c.loop-item-test.true c.item-item.is)); bounds = c.loop-item.invariant.bounds }

pub loop-item-preserved : goal.loop-item-preserved
loop-item-preserved c =
    let items = c.atoms-item-items.result.now in
    let i = c.loop-item.item-index in
    let x = c.item-item.result in
    record {
      bounds = c.of_item.ensures.bounds;
      least = bound_step (atom_cost c.args.prices.now) (λ y a. AtomFits a c.args.arena.now y) items i x (here items i x c.loop-item-test.true c.item-item.is) c.loop-item.least c.of_item.result _
          (omega arith) (omega arith) c.loop-item.invariant.least c.of_item.ensures.least;
    }

pub returns-clause-least : goal.returns-clause-least
returns-clause-least c =
    bound_done (atom_cost c.args.prices.now) (λ y a. AtomFits a c.args.arena.now y) c.atoms-item-items.result.now (AtomStands c.args.arena.now c.args.s) (atom_listed c.args.arena.now c.args.s c.atoms-item-items.result.now c.atoms-item-items.ensures)
    c.loop-item.item-index c.loop-item-test.false c.loop-item.least c.loop-item.invariant.least
