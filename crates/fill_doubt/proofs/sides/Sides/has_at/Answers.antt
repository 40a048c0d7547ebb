use Rattle.std.proofs.Common.{◌<◌, length, arith}
use Rattle.fill_arena.proofs.Scan.{here}
use Rattle.fill_doubt.proofs.sides.Sides.has_at.Goals as goal

pub returns : goal.returns
returns c = λ t.
    let xs = c.args.self.now.sides in
    let x = c.index.result.now in
    let lt : c.args.i < length xs.items = (let n = xs.ok.0 in let l = c.len.ensures in let t = c.if-i-len.false in omega arith) in
    (x, here xs.items c.args.i x lt c.index.ensures, c.are_same.ensures t)
