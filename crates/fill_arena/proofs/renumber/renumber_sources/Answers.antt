use Rattle.std.proofs.lemmas.List.Elements.{all_zip_more}
use Rattle.fill_arena.specs.Copied.{SourceBecomes, HasNew, Takes}
use Rattle.fill_arena.specs.Named.{source_names}
use Rattle.fill_arena.proofs.Scan.{here}
use Rattle.fill_arena.proofs.Zips.{each_of_flat}
use Rattle.fill_arena.proofs.renumber.renumber_sources.Goals as goal

pub renumber_source-requires : goal.renumber_source-requires
renumber_source-requires c =
    let items = c.args.items.now in
    let i = c.loop-item.item-index in
    each_of_flat (HasNew c.args.table.now) source_names items c.requires i c.item-item.result (here items i c.item-item.result c.loop-item-test.true c.item-item.is)

pub loop-item-preserved : goal.loop-item-preserved
loop-item-preserved c =
    rw c.in_ok-push.ensures.ok
    (all_zip_more (SourceBecomes (Takes c.args.table.now)) c.args.items.now c.loop-item.made c.loop-item.item-index c.item-item.result c.in_ok-renumber_source.field-0 c.loop-item-test.true c.item-item.is c.loop-item.invariant
    c.in_ok-renumber_source.ensures)
