use Rattle.std.proofs.Common.{◌≡◌, length, Some, ⊎_elim, slice_get, sym, ap, subst, ◌∙◌, arith}
use Rattle.fill_arena.proofs.Scan.{here}
use Rattle.std.proofs.lemmas.Bool.{cases_lt}
use Rattle.std.proofs.lemmas.Option.{slice_get_within}
use Rattle.std.specs.declared.cmp.Ordering.TheVariants.{Less}
use Rattle.fill_eval.specs.Piece.{piece_text}
use Rattle.fill_eval.specs.declared.piece.Piece.{Piece}
use Rattle.fill_doubt.proofs.Rising.{text_cmp}
use Rattle.fill_doubt.proofs.listing.place_in.Goals as goal

pub as_slice-requires : goal.as_slice-requires
as_slice-requires c = record { within = c.requires.within c.loop-i.i c.index-order-i.result (here c.args.order.now c.loop-i.i c.index-order-i.result c.loop-i-test.true c.index-order-i.is) }

pub returns-in_default-clause-here : goal.returns-in_default-clause-here
returns-in_default-clause-here c x h less =
    let y = c.index-order-i.result in
    let p = piece_text c.args.piece.now in
    let at = here c.args.order.now c.loop-i.i y c.loop-i-test.true c.index-order-i.is in
    let one : y ≡ x = cc in
    let e : c.cmp.result ≡ text_cmp (piece_text y) p = c.cmp.ensures ∙ ap (λ z. text_cmp z c.as_slice-in-loop-i.result.now) c.as_slice.ensures ∙ ap (λ z. text_cmp (piece_text y) z) c.as_slice-in-loop-i.ensures in
    c.in_default.not-Less (e ∙ ap (λ (z : Piece). text_cmp (piece_text z) p) one ∙ less)

pub loop-i-preserved : goal.loop-i-preserved
loop-i-preserved c k x lt h =
    let y = c.index-order-i.result in
    let p = piece_text c.args.piece.now in
    let at = here c.args.order.now c.loop-i.i y c.loop-i-test.true c.index-order-i.is in
    let e : c.cmp.result ≡ text_cmp (piece_text y) p = c.cmp.ensures ∙ ap (λ z. text_cmp z c.as_slice-in-loop-i.result.now) c.as_slice.ensures ∙ ap (λ z. text_cmp (piece_text y) z) c.as_slice-in-loop-i.ensures in
    ⊎_elim (λ before. c.loop-i.invariant k x before h)
    (λ past.
    let same : k ≡ c.loop-i.i = omega arith in
    let there : slice_get c.args.order.now c.loop-i.i ≡ Some x = subst (λ j. slice_get c.args.order.now j ≡ Some x) same h in
    let one : y ≡ x = cc in
    subst (λ (z : Piece). text_cmp (piece_text z) p ≡ Less) one (sym e ∙ c.in-Less.is))
    (cases_lt k c.loop-i.i)

pub returns-clause-here : goal.returns-clause-here
returns-clause-here c x h less = let w = slice_get_within c.args.order.now (length c.args.order.now) x h in absurd (omega arith)
