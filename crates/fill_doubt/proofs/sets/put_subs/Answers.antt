use Rattle.std.proofs.Common.{◌<◌, ◌≤◌, length, List, None, Some, inl, inr, ⊎_elim, refl, sym, ap, subst, ◌∙◌, arith}
use Rattle.fill_arena.proofs.Scan.{here}
use Rattle.fill_arena.specs.Contents.{EachIn}
use Rattle.fill_eval.specs.Piece.{IsWithin}
use Rattle.fill_eval.specs.declared.piece.Piece.{Piece}
use Rattle.fill_doubt.specs.Answers.{PiecesHave}
use Rattle.fill_doubt.specs.Numbered.{IsNumber, NumberedHave}
use Rattle.fill_doubt.specs.Gives.{ArePiecesOf, PieceOf, SubGives}
use Rattle.fill_doubt.proofs.Gains.{below_start, below_more, below_end, some_into, some_more}
use Rattle.fill_doubt.proofs.Joins.{gains_made}
use Rattle.fill_doubt.proofs.sets.put_subs.Goals as goal

pub loop-i-init : goal.loop-i-init
loop-i-init c = record {
  memo = c.requires.memo;
  texts = refl;
  within = subst (λ (xs : List Piece). EachIn IsWithin xs) (sym (ap (λ v. v.items) c.put_none.ensures.kept)) c.requires.within;
  some = λ o h. inl h;
  all = λ few. below_start (λ x. SubGives c.args.on.now.arena.now c.args.lefts c.args.rights x.text.now) c.args.texts.now.texts.items (PiecesHave c.put_none.new.self);
}

pub put_pieces-requires-clause-number : goal.put_pieces-requires-clause-number
put_pieces-requires-clause-number c =
    let xs = c.args.texts.now.texts in
    let x = c.index.result.now in
    let lt : c.loop-i.i < length xs.items = (let n = xs.ok.0 in let l = c.len-i-end.ensures in let t = c.loop-i-test.true in omega arith) in
    subst (λ v. IsNumber v.items x.text.now x.number) (sym c.loop-i.invariant.texts) (c.requires.numbered.each c.loop-i.i x (here xs.items c.loop-i.i x lt c.index.ensures))

pub loop-i-preserved : goal.loop-i-preserved
loop-i-preserved c =
    let xs = c.args.texts.now.texts in
    let x = c.index.result.now in
    let lt : c.loop-i.i < length xs.items = (let n = xs.ok.0 in let l = c.len-i-end.ensures in let t = c.loop-i-test.true in omega arith) in
    let at = here xs.items c.loop-i.i x lt c.index.ensures in
    let R = ArePiecesOf c.args.on.now.arena.now c.args.lefts c.args.rights (NumberedHave c.args.texts.now) in
    let mid = PiecesHave c.loop-i.found in
    let new = PiecesHave c.put_pieces.new.found in
    record {
      memo = c.in_ok-put_pieces.ensures.memo;
      texts = c.put_pieces.ensures.texts ∙ c.loop-i.invariant.texts;
      within = c.in_ok-put_pieces.ensures.within;
      some = some_more (PiecesHave c.put_none.new.self) mid new R c.loop-i.invariant.some
          (some_into mid new (SubGives c.args.on.now.arena.now c.args.lefts c.args.rights x.text.now) R (λ o h. (Some x.text.now, (x, (c.loop-i.i, at), refl), h)) c.in_ok-put_pieces.ensures.some);
      all = λ few. below_more (λ y. SubGives c.args.on.now.arena.now c.args.lefts c.args.rights y.text.now) xs.items (PiecesHave c.put_none.new.self) mid new c.loop-i.i x
          at (c.loop-i.invariant.all few) (c.in_ok-put_pieces.ensures.all few);
    }

pub returns-clause-some : goal.returns-clause-some
returns-clause-some c = λ o h.
    ⊎_elim (λ m. ⊎_elim (λ l. inl l) (λ r. inr (None, r.1, r.0)) ((c.put_none.ensures.gains o).0 m)) (λ q. inr q) (c.loop-i.invariant.some o h)

pub returns-clause-all : goal.returns-clause-all
returns-clause-all c = λ few.
    let xs = c.args.texts.now.texts in
    let past : length xs.items ≤ c.loop-i.i = (let n = xs.ok.0 in let l = c.len-i-end.ensures in let t = c.loop-i-test.false in omega arith) in
    let all = below_end (λ x. SubGives c.args.on.now.arena.now c.args.lefts c.args.rights x.text.now) xs.items (PiecesHave c.put_none.new.self) (PiecesHave c.loop-i.found) c.loop-i.i past (c.loop-i.invariant.all few) in
    gains_made (λ x. x.text.now) (PieceOf c.args.on.now.arena.now c.args.lefts c.args.rights) (λ o. ((λ h. h), (λ h. h))) xs.items c.args.texts.now.none (PiecesHave c.args.found.now) (PiecesHave c.put_none.new.self) (PiecesHave c.loop-i.found) c.put_none.ensures.gains all
