use Rattle.std.proofs.Common.{◌<◌, ◌≤◌, length, arith}
use Rattle.fill_arena.proofs.Scan.{here}
use Rattle.fill_trim.proofs.Passes.{came_more, came_end}
use Rattle.fill_trim.proofs.marks.spread_forth.Goals as goal

pub loop-i-preserved : goal.loop-i-preserved
loop-i-preserved c =
    let edge = c.index-edges-i.result in
    let within : c.loop-i.i < length c.args.edges.now = omega arith in
    let at = here c.args.edges.now c.loop-i.i edge within c.index-edges-i.is in
    rw c.spread.ensures (came_more (length c.args.marks.now) c.args.edges.now c.requires.edges c.loop-i.i c.loop-i.marks edge at c.loop-i.invariant)

pub returns : goal.returns
returns c =
    let past : length c.args.edges.now ≤ c.loop-i.i = omega arith in
    came_end (length c.args.marks.now) c.args.edges.now c.requires.edges c.loop-i.i c.loop-i.marks past c.loop-i.invariant
