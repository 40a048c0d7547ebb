use Rattle.std.proofs.Common.{◌<◌, length, refl, arith}
use Rattle.std.proofs.lemmas.Option.{slice_get_within}
use Rattle.fill_arena.proofs.Scan.{here}
use Rattle.fill_doubt.proofs.answers.Pieces.first.Goals as goal

pub returns-then-len-eq0 : goal.returns-then-len-eq0
returns-then-len-eq0 c = λ t h.
    let xs = c.args.self.now.pieces in
    let w = slice_get_within xs.items h.1.0 h.0 h.1.1 in
    let n = xs.ok.0 in
    let l = c.len.ensures in
    let z = c.if-len-eq0.true in
    omega arith

pub returns : goal.returns
returns c =
    let xs = c.args.self.now.pieces in
    let x = c.index-first.result.now in
    let lt : 0 < length xs.items = (let n = xs.ok.0 in let l = c.len.ensures in let z = c.if-len-eq0.false in omega arith) in
    let at = here xs.items 0 x lt c.index-first.ensures in
    (c.requires.within 0 x at, (x, (0, at), refl))
