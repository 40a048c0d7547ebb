use Rattle.std.proofs.Common.{ℕ, ◌<◌, length, arith}
use Rattle.fill_arena.specs.Named.{source_names}
use Rattle.fill_arena.proofs.Scan.{here}
use Rattle.fill_arena.proofs.Zips.{each_of_flat}
use Rattle.fill_arena.proofs.marks.mark_sources.Goals as goal

pub mark_source-requires : goal.mark_source-requires
mark_source-requires c = λ k x at.
    let items = c.args.items.now in
    let i = c.loop-item.item-index in
    let there = here items i c.item-item.result c.loop-item-test.true c.item-item.is in
    let lt = each_of_flat (λ (n : ℕ). n < length c.args.marks.now) source_names items c.requires i c.item-item.result there k x at in
    let long = c.loop-item.auto.marks in
    omega arith
