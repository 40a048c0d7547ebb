use Rattle.std.proofs.Common.{◌≡◌, sym, ap, ◌∙◌, arith}
use Rattle.std.proofs.lemmas.Bool.{false≢true}
use Rattle.fill_arena.proofs.Scan.{here}
use Rattle.std.proofs.lemmas.Option.{slice_get_within}
use Rattle.std.proofs.lemmas.Slice.Eq.{slice_eq-Decides}
use Rattle.std.proofs.lemmas.Bool.Decides.{Decides-eqb}
use Rattle.fill_eval.specs.Piece.{piece_text}
use Rattle.fill_eval.specs.declared.piece.Piece.{Piece}
use Rattle.fill_doubt.proofs.listing.is_at.Goals as goal

pub returns-then-at-order : goal.returns-then-at-order
returns-then-at-order c = ((λ t. absurd (false≢true t)), (λ h. let w = slice_get_within c.args.order.now c.args.at h.0 h.1 in let past = c.if-at-order.true in absurd (omega arith)))

pub as_slice-requires : goal.as_slice-requires
as_slice-requires c = record { within = c.requires.within c.args.at c.index-order-at.result (here c.args.order.now c.args.at c.index-order-at.result c.if-at-order.false c.index-order-at.is) }

pub returns : goal.returns
returns c =
    let y = c.index-order-at.result in
    let at = here c.args.order.now c.args.at y c.if-at-order.false c.index-order-at.is in
    let same = slice_eq-Decides Decides-eqb c.as_slice.result.now c.as_slice-2.result.now c.eq.result c.eq.ensures in (
      (λ t. (y, at, sym c.as_slice.ensures ∙ same.0 t ∙ c.as_slice-2.ensures)),
      (λ h. let there = h.1 in let one : y ≡ h.0 = cc in same.1 (c.as_slice.ensures ∙ ap (λ (z : Piece). piece_text z) one ∙ h.2 ∙ sym c.as_slice-2.ensures)),
    )
