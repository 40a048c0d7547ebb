use Rattle.std.proofs.Common.{◌<◌, length, arith}
use Rattle.fill_arena.proofs.Scan.{here}
use Rattle.fill_doubt.proofs.tokens.Tokens.find.Goals as goal

pub returns-then-is_of : goal.returns-then-is_of
returns-then-is_of c =
    let xs = c.args.self.now.read in
    let x = c.index.result.now in
    let lt : c.loop-i.i < length xs.items = (let n = xs.ok.0 in let l = c.len-i-end.ensures in let t = c.loop-i-test.true in omega arith) in
    (x, here xs.items c.loop-i.i x lt c.index.ensures, c.is_of.ensures c.if-is_of.true)
