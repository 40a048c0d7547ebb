use Rattle.std.proofs.Common.{⊎_elim}
use Rattle.fill_arena.proofs.Scan.{here}
use Rattle.fill_arena.specs.declared.entry.Entry.TheVariants.{Atoms}
use Rattle.fill_doubt.proofs.Items.{part_answers}
use Rattle.fill_doubt.proofs.some.some_of.Goals as goal

pub loop-item-init : goal.loop-item-init
loop-item-init c = record {
  memo = c.requires.memo;
  within = c.new-found.ensures.within;
  sound = λ o h. absurd (c.new-found.ensures.none o h);
}

pub put_part-requires-clause-item : goal.put_part-requires-clause-item
put_part-requires-clause-item c =
    let items = c.atoms-items.result.now in
    let i = c.loop-item.item-index in
    let x = c.item-item.result in
    (c.keeps_made.ensures c.args.s (Atoms items) c.atoms-items.ensures).each i x (here items i x c.loop-item-test.true c.item-item.is)

pub loop-item-preserved : goal.loop-item-preserved
loop-item-preserved c =
    let items = c.atoms-items.result.now in
    let i = c.loop-item.item-index in
    let x = c.item-item.result in
    let at = here items i x c.loop-item-test.true c.item-item.is in
    record {
      memo = c.in_ok-put_part.ensures.memo;
      within = c.in_ok-put_part.ensures.within;
      sound = λ o h. ⊎_elim (λ l. c.loop-item.invariant.sound o l) (λ r. part_answers c.args.on.now c.requires.row c.args.s items c.atoms-items.ensures i x at o r) (c.in_ok-put_part.ensures.some o h);
    }
