use Rattle.std.proofs.Common.{◌≡◌, None, Some, sym, subst}
use Rattle.fill_tree.specs.Value.{IsFilled, IsValue}
use Rattle.fill_eval.specs.Piece.{piece_text}
use Rattle.fill_doubt.proofs.Answered.{answer_one}
use Rattle.fill_doubt.proofs.Flags.{on_ok}
use Rattle.fill_doubt.proofs.Gains.{gains_alike, have_none}
use Rattle.fill_doubt.proofs.sets.put_whole.Goals as goal

pub returns-in-Some-clause-gains : goal.returns-in-Some-clause-gains
returns-in-Some-clause-gains c =
    let P = IsFilled (λ t. t ≡ c.args.text.now) in
    let v = piece_text c.in-Some.piece in
    let is : IsValue P (Some v) = rw c.whole.ensures.value at c.in-Some.ensures.value in
    on_ok c.put.result c.put.ensures.gains (gains_alike _ _ (λ o. o ≡ Some v) (IsValue P) (λ o. ((λ e. subst (IsValue P) (sym e) is), (λ h. answer_one P o (Some v) h is))))

pub returns-in-None-clause-gains : goal.returns-in-None-clause-gains
returns-in-None-clause-gains c =
    let P = IsFilled (λ t. t ≡ c.args.text.now) in
    let is : IsValue P None = rw c.whole.ensures.value at c.in-None.ensures.value in
    gains_alike _ _ (λ o. o ≡ None) (IsValue P) (λ o. ((λ e. subst (IsValue P) (sym e) is), (λ h. answer_one P o None h is))) (have_none piece_text c.args.found.now.pieces.items c.args.found.now.none)
