use Rattle.std.proofs.Common.{◌≡◌, ◌<◌, ◌≤◌, length, List, sym, ap, subst, arith}
use Rattle.fill_arena.proofs.Scan.{here}
use Rattle.fill_arena.specs.Contents.{EachIn}
use Rattle.fill_tree.specs.Value.{IsFilled, IsValue}
use Rattle.fill_eval.specs.Piece.{IsWithin}
use Rattle.fill_eval.specs.declared.piece.Piece.{Piece}
use Rattle.fill_doubt.specs.Answers.{PiecesHave}
use Rattle.fill_doubt.specs.Gives.{WholeOf}
use Rattle.fill_doubt.proofs.Gains.{below_start, below_more, below_end}
use Rattle.fill_doubt.proofs.Joins.{gains_made}
use Rattle.fill_doubt.proofs.sets.put_wholes.Goals as goal

pub loop-i-init : goal.loop-i-init
loop-i-init c = record {
  within = subst (λ (xs : List Piece). EachIn IsWithin xs) (sym (ap (λ v. v.items) c.put_none.ensures.kept)) c.requires.within;
  gains = below_start (λ x. IsValue (IsFilled (λ t. t ≡ x.text.now))) c.args.texts.now.texts.items (PiecesHave c.put_none.new.self);
}

pub loop-i-preserved : goal.loop-i-preserved
loop-i-preserved c =
    let xs = c.args.texts.now.texts in
    let x = c.index.result.now in
    let lt : c.loop-i.i < length xs.items = (let n = xs.ok.0 in let l = c.len-i-end.ensures in let t = c.loop-i-test.true in omega arith) in
    record {
      within = c.in_ok-put_whole.ensures.within;
      gains = below_more (λ x. IsValue (IsFilled (λ t. t ≡ x.text.now))) xs.items (PiecesHave c.put_none.new.self) (PiecesHave c.loop-i.found) (PiecesHave c.put_whole.new.found) c.loop-i.i x
          (here xs.items c.loop-i.i x lt c.index.ensures) c.loop-i.invariant.gains c.in_ok-put_whole.ensures.gains;
    }

pub returns-clause-gains : goal.returns-clause-gains
returns-clause-gains c =
    let xs = c.args.texts.now.texts in
    let past : length xs.items ≤ c.loop-i.i = (let n = xs.ok.0 in let l = c.len-i-end.ensures in let t = c.loop-i-test.false in omega arith) in
    let all = below_end (λ x. IsValue (IsFilled (λ t. t ≡ x.text.now))) xs.items (PiecesHave c.put_none.new.self) (PiecesHave c.loop-i.found) c.loop-i.i past c.loop-i.invariant.gains in
    gains_made (λ x. x.text.now) WholeOf (λ o. ((λ h. h), (λ h. h))) xs.items c.args.texts.now.none (PiecesHave c.args.found.now) (PiecesHave c.put_none.new.self) (PiecesHave c.loop-i.found) c.put_none.ensures.gains all
