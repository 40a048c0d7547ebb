use Rattle.std.proofs.Common.{◌<◌, ◌≤◌, length, sym, arith}
use Rattle.fill_arena.proofs.Scan.{here}
use Rattle.fill_doubt.proofs.Laid.{pieces_more, pieces_all}
use Rattle.fill_doubt.proofs.pass.follow_pieces.Goals as goal

pub loop-i-init : goal.loop-i-init
loop-i-init c = record {
  keeps = λ n a h. h;
  short = c.requires.short;
  laid = λ on edges e i from to all laid. laid;
  agree = λ k x l h. absurd (omega arith);
}

pub as_slice-requires : goal.as_slice-requires
as_slice-requires c =
    let xs = c.args.found.now.pieces in
    let lt : c.loop-i.i < length xs.items = (let n = xs.ok.0 in let l = c.len-i-end.ensures in let t = c.loop-i-test.true in omega arith) in
    record { within = c.requires.within c.loop-i.i c.index.result.now (here xs.items c.loop-i.i c.index.result.now lt c.index.ensures) }

pub follow_piece-requires-clause-from : goal.follow_piece-requires-clause-from
follow_piece-requires-clause-from c = let f = c.requires.from in (f.0, c.loop-i.invariant.keeps _ _ f.1)

pub returns-then-not-follow_piece-clause-keeps : goal.returns-then-not-follow_piece-clause-keeps
returns-then-not-follow_piece-clause-keeps c = λ n a h. c.follow_piece.ensures.keeps n a (c.loop-i.invariant.keeps n a h)

pub returns-then-not-follow_piece-clause-laid : goal.returns-then-not-follow_piece-clause-laid
returns-then-not-follow_piece-clause-laid c =
    let xs = c.args.found.now.pieces in
    let x = c.index.result.now in
    let lt : c.loop-i.i < length xs.items = (let n = xs.ok.0 in let l = c.len-i-end.ensures in let t = c.loop-i-test.true in omega arith) in
    let there = here xs.items c.loop-i.i x lt c.index.ensures in
    λ on edges e i from to all laid.
    c.follow_piece.ensures.laid on edges e i from to (all c.as_slice.result.now (x, (c.loop-i.i, there), sym c.as_slice.ensures)) (c.loop-i.invariant.laid on edges e i from to all laid)

pub returns-then-not-follow_piece-clause-says : goal.returns-then-not-follow_piece-clause-says
returns-then-not-follow_piece-clause-says c =
    let xs = c.args.found.now.pieces in
    let x = c.index.result.now in
    let lt : c.loop-i.i < length xs.items = (let n = xs.ok.0 in let l = c.len-i-end.ensures in let t = c.loop-i-test.true in omega arith) in
    let there = here xs.items c.loop-i.i x lt c.index.ensures in
    (c.as_slice.result.now, (x, (c.loop-i.i, there), sym c.as_slice.ensures), c.if-not-follow_piece.ensures.says)

pub loop-i-preserved : goal.loop-i-preserved
loop-i-preserved c =
    let xs = c.args.found.now.pieces in
    let x = c.index.result.now in
    let lt : c.loop-i.i < length xs.items = (let n = xs.ok.0 in let l = c.len-i-end.ensures in let t = c.loop-i-test.true in omega arith) in
    let there = here xs.items c.loop-i.i x lt c.index.ensures in
    record {
      keeps = λ n a h. c.follow_piece.ensures.keeps n a (c.loop-i.invariant.keeps n a h);
      short = c.follow_piece.ensures.short;
      laid = λ on edges e i from to all laid.
          c.follow_piece.ensures.laid on edges e i from to (all c.as_slice.result.now (x, (c.loop-i.i, there), sym c.as_slice.ensures)) (c.loop-i.invariant.laid on edges e i from to all laid);
      agree = pieces_more c.args.text.now c.loop-i.lengths c.follow_piece.new.lengths c.args.from c.args.to xs.items c.loop-i.i x c.as_slice.result.now there c.as_slice.ensures c.follow_piece.ensures.keeps c.loop-i.invariant.agree c.if-not-follow_piece.ensures.says;
    }

pub returns-clause-says : goal.returns-clause-says
returns-clause-says c =
    let xs = c.args.found.now.pieces in
    let past : length xs.items ≤ c.loop-i.i = (let n = xs.ok.0 in let l = c.len-i-end.ensures in let t = c.loop-i-test.false in omega arith) in
    pieces_all c.args.text.now c.loop-i.lengths c.args.from c.args.to xs.items c.loop-i.i past c.loop-i.invariant.agree
