use Rattle.std.proofs.Common.{◌<◌, ◌≤◌, length, List, sym, ap, subst, arith}
use Rattle.fill_arena.proofs.Scan.{here}
use Rattle.fill_arena.specs.Contents.{EachIn}
use Rattle.fill_eval.specs.Piece.{IsWithin}
use Rattle.fill_eval.specs.declared.piece.Piece.{Piece}
use Rattle.fill_doubt.specs.Answers.{AreBetweenFrom, PiecesHave}
use Rattle.fill_doubt.proofs.Gains.{below_start, below_more, below_end}
use Rattle.fill_doubt.proofs.Joins.{gains_between}
use Rattle.fill_doubt.proofs.positions.put_between.Goals as goal

pub loop-i-init : goal.loop-i-init
loop-i-init c = record {
  within = subst (λ (xs : List Piece). EachIn IsWithin xs) (sym (ap (λ v. v.items) c.put_none.ensures.kept)) c.requires.within;
  gains = below_start (λ a. AreBetweenFrom c.args.text.now a c.args.rights.now.positions.items) c.args.lefts.now.positions.items (PiecesHave c.put_none.new.self);
}

pub loop-i-preserved : goal.loop-i-preserved
loop-i-preserved c =
    let xs = c.args.lefts.now.positions in
    let x = c.index.result.now in
    let lt : c.loop-i.i < length xs.items = (let n = xs.ok.0 in let l = c.len-i-end.ensures in let t = c.loop-i-test.true in omega arith) in
    record {
      within = c.put_from.ensures.within;
      gains = below_more (λ a. AreBetweenFrom c.args.text.now a c.args.rights.now.positions.items) xs.items (PiecesHave c.put_none.new.self) (PiecesHave c.loop-i.found) (PiecesHave c.put_from.new.found) c.loop-i.i x
          (here xs.items c.loop-i.i x lt c.index.ensures) c.loop-i.invariant.gains c.in_ok-put_from.ensures.gains;
    }

pub returns-clause-gains : goal.returns-clause-gains
returns-clause-gains c =
    let xs = c.args.lefts.now.positions in
    let past : length xs.items ≤ c.loop-i.i = (let n = xs.ok.0 in let l = c.len-i-end.ensures in let t = c.loop-i-test.false in omega arith) in
    let all = below_end (λ a. AreBetweenFrom c.args.text.now a c.args.rights.now.positions.items) xs.items (PiecesHave c.put_none.new.self) (PiecesHave c.loop-i.found) c.loop-i.i past c.loop-i.invariant.gains in
    gains_between c.args.text.now c.args.lefts.now c.args.rights.now c.lack.result c.lack.ensures (PiecesHave c.args.found.now) (PiecesHave c.put_none.new.self) (PiecesHave c.loop-i.found) c.put_none.ensures.gains all
