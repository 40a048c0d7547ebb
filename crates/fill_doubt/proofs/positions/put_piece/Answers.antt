use Rattle.std.proofs.Common.{◌≡◌, None, Some, sym, ◌∙◌}
use Rattle.std.specs.Prelude.{slice_range}
use Rattle.fill_eval.specs.Piece.{piece_text}
use Rattle.fill_doubt.specs.Answers.{between}
use Rattle.fill_doubt.proofs.Flags.{on_ok}
use Rattle.fill_doubt.proofs.Gains.{gains_alike, have_none}
use Rattle.fill_doubt.proofs.Joins.{between_less, between_past}
use Rattle.fill_doubt.proofs.positions.put_piece.Goals as goal

pub returns-then-from-to-clause-gains : goal.returns-then-from-to-clause-gains
returns-then-from-to-clause-gains c =
    let t = c.args.text.now in
    let a = c.args.from in
    let b = c.args.to in
    let e = between_less t a b c.if-from-to.true in
    on_ok c.put.result c.put.ensures.gains (gains_alike _ _ (λ o. o ≡ Some (slice_range t a b)) (λ o. o ≡ between t (Some a) (Some b)) (λ o. ((λ h. h ∙ sym e), (λ h. h ∙ e))))

pub returns-else-from-to-clause-gains : goal.returns-else-from-to-clause-gains
returns-else-from-to-clause-gains c =
    let t = c.args.text.now in
    let a = c.args.from in
    let b = c.args.to in
    let e = between_past t a b c.if-from-to.false in
    gains_alike _ _ (λ o. o ≡ None) (λ o. o ≡ between t (Some a) (Some b)) (λ o. ((λ h. h ∙ sym e), (λ h. h ∙ e))) (have_none piece_text c.args.found.now.pieces.items c.args.found.now.none)
