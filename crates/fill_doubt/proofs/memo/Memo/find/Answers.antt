use Rattle.std.proofs.Common.{◌<◌, length, arith}
use Rattle.fill_arena.proofs.Scan.{here}
use Rattle.fill_doubt.proofs.memo.Memo.find.Goals as goal

pub returns-then-same : goal.returns-then-same
returns-then-same c =
    let xs = c.args.self.now.texts in
    let x = c.index.result.now in
    let lt : c.loop-i.i < length xs.items = (let n = xs.ok.0 in let l = c.len-i-end.ensures in let t = c.loop-i-test.true in omega arith) in
    (x, here xs.items c.loop-i.i x lt c.index.ensures, c.same.ensures.0 c.if-same.true)
