use Rattle.std.proofs.Common.{◌≡◌, ◌<◌, ◌≤◌, length, Some, refl, arith}
use Rattle.fill_arena.proofs.Scan.{here}
use Rattle.fill_doubt.specs.Answers.{PiecesHave, between}
use Rattle.fill_doubt.proofs.Gains.{below_start, below_more, below_end}
use Rattle.fill_doubt.proofs.positions.put_from.Goals as goal

pub loop-i-init : goal.loop-i-init
loop-i-init c = record {
  within = c.requires.within;
  gains = below_start (λ b o. o ≡ between c.args.text.now (Some c.args.from) (Some b)) c.args.rights.now.positions.items (PiecesHave c.args.found.now);
}

pub put_piece-requires-clause-end : goal.put_piece-requires-clause-end
put_piece-requires-clause-end c =
    let xs = c.args.rights.now.positions in
    let lt : c.loop-i.i < length xs.items = (let n = xs.ok.0 in let l = c.len-i-end.ensures in let t = c.loop-i-test.true in omega arith) in
    c.requires.ends c.index.result.now (c.index.result.now, (c.loop-i.i, here xs.items c.loop-i.i c.index.result.now lt c.index.ensures), refl)

pub loop-i-preserved : goal.loop-i-preserved
loop-i-preserved c =
    let xs = c.args.rights.now.positions in
    let x = c.index.result.now in
    let lt : c.loop-i.i < length xs.items = (let n = xs.ok.0 in let l = c.len-i-end.ensures in let t = c.loop-i-test.true in omega arith) in
    record {
      within = c.put_piece.ensures.within;
      gains = below_more (λ b o. o ≡ between c.args.text.now (Some c.args.from) (Some b)) xs.items (PiecesHave c.args.found.now) (PiecesHave c.loop-i.found) (PiecesHave c.put_piece.new.found) c.loop-i.i x
          (here xs.items c.loop-i.i x lt c.index.ensures) c.loop-i.invariant.gains c.in_ok-put_piece.ensures.gains;
    }

pub returns-clause-gains : goal.returns-clause-gains
returns-clause-gains c =
    let xs = c.args.rights.now.positions in
    let past : length xs.items ≤ c.loop-i.i = (let n = xs.ok.0 in let l = c.len-i-end.ensures in let t = c.loop-i-test.false in omega arith) in
    below_end (λ b o. o ≡ between c.args.text.now (Some c.args.from) (Some b)) xs.items (PiecesHave c.args.found.now) (PiecesHave c.loop-i.found) c.loop-i.i past c.loop-i.invariant.gains
