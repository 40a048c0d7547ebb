use Rattle.fill_tree.specs.Grammar.{IsPart}
use Rattle.fill_tree.specs.Meaning.{atom_tree}
use Rattle.fill_arena.proofs.Scan.{here}
use Rattle.fill_tree.specs.Order.{atom_rank}
use Rattle.fill_arena.specs.Stands.{ConstantFits, ConstantStands}
use Rattle.fill_tree.proofs.Ranked.{atom_rank-total, atom_rank-exact}
use Rattle.fill_rank.proofs.Scan.{scan_step, scan_done}
use Rattle.fill_arena.specs.declared.entry.Entry.TheVariants.{Atoms}
use Rattle.fill_rank.proofs.Cheap.{atoms_cheap, atom_cheap, constant_fits}
use Rattle.fill_arena.proofs.Stand.{atom_items, items_atom}
use Rattle.fill_rank.proofs.sets.constant_of.Goals as goal

pub loop-item-preserved : goal.loop-item-preserved
loop-item-preserved c =
    let items = c.atoms-item-items.result.now in
    let i = c.loop-item.item-index in
    let x = c.item-item.result in
    scan_step (λ x a. ConstantFits c.args.arena.now x a) items atom_tree (atom_rank c.args.prices.now) (atom_rank-total c.args.prices.now) (atom_rank-exact c.args.prices.now) i x (here items i x c.loop-item-test.true c.item-item.is)
    c.loop-item.best c.in_ok-constant_in.field-0 c.lesser_atom-best.result c.lesser_atom-best.ensures c.loop-item.invariant (c.in_ok-constant_in.ensures c.args.prices.now c.args.arena.now)

pub returns : goal.returns
returns c =
    let arena = c.args.arena.now in
    let items = c.atoms-item-items.result.now in
    scan_done (λ x a. ConstantFits arena x a) items atom_tree (atom_rank c.args.prices.now) (ConstantStands arena c.args.s)
    (atom_items arena c.args.s items c.atoms-item-items.ensures (λ a. ¬ (IsPart a))) (items_atom arena c.args.s items c.atoms-item-items.ensures (λ a. ¬ (IsPart a)))
    c.loop-item.item-index c.loop-item-test.false c.loop-item.best c.loop-item.invariant

pub lesser_atom-best-requires : goal.lesser_atom-best-requires
lesser_atom-best-requires c =
    let arena = c.args.arena.now in
    let items = c.atoms-item-items.result.now in
    let i = c.loop-item.item-index in
    let x = c.item-item.result in
    let each = (c.keeps_made.ensures c.args.s (Atoms items) c.atoms-item-items.ensures).each in
    record {
      best = atoms_cheap c.args.prices.now c.keep_small.ensures arena c.keeps_made.ensures c.args.s (ConstantFits arena) (constant_fits arena) items each i c.loop-item.best c.loop-item.invariant;
      next = atom_cheap c.args.prices.now c.keep_small.ensures arena c.keeps_made.ensures c.args.s (ConstantFits arena) (constant_fits arena) x (each i x (here items i x c.loop-item-test.true c.item-item.is)) c.in_ok-constant_in.field-0
          (c.in_ok-constant_in.ensures c.args.prices.now arena);
    }
