use Rattle.std.proofs.Common.{◌<◌, ◌≤◌, length, sym, ◌∙◌, arith}
use Rattle.fill_arena.specs.Copied.{Takes}
use Rattle.fill_arena.proofs.Scan.{here}
use Rattle.fill_arena.proofs.Zips.{zipped_end}
use Rattle.fill_arena.proofs.renumber.renumber_graphs.Goals as goal

pub new_number-requires : goal.new_number-requires
new_number-requires c =
    let i = c.loop-i.i in
    let g = c.index-live-i.result in
    let long = c.loop-i.auto.live in
    let lt : i < length c.loop-i.live = omega arith in
    let at = sym (c.loop-i.invariant.rest i (omega arith)) ∙ here c.loop-i.live i g lt c.index-live-i.is in
    rw c.index.ensures (c.requires i g at)

pub returns : goal.returns
returns c =
    let long = c.loop-i.auto.live in
    let past : length c.loop-i.live ≤ c.loop-i.i = omega arith in
    zipped_end (Takes c.args.table.now) c.loop-i.i c.args.live.now c.loop-i.live past c.loop-i.invariant
