use Rattle.std.proofs.Common.{◌≡◌, ◌+◌, true, slice_range, sym, ◌∙◌, subst, arith}
use Rattle.std.proofs.lemmas.Bool.{false≢true}
use Rattle.fill_sources.proofs.Standing.{spot_more, spot_skip, spots_all}
use Rattle.fill_sources.proofs.spots.put_spots.Goals as goal

pub loop-at-preserved-then-not-piece_is : goal.loop-at-preserved-then-not-piece_is
loop-at-preserved-then-not-piece_is c =
    let t = c.args.text.now in
    let w = c.args.w.now in
    let n = c.loop-at.at in
    spot_skip c.args.spots.now c.loop-at.spots t c.args.k w n
    (λ e.
    let is : c.piece_is.result ≡ true = c.piece_is.ensures.1 (subst (λ m. slice_range t n (n + m) ≡ w) (sym c.len-width.ensures.value) e) in
    false≢true (sym c.if-not-piece_is.true ∙ is))
    c.loop-at.invariant

pub loop-at-preserved : goal.loop-at-preserved
loop-at-preserved c =
    let t = c.args.text.now in
    let w = c.args.w.now in
    let n = c.loop-at.at in
    spot_more c.args.spots.now c.loop-at.spots c.push.new.self t c.args.k w n (omega arith)
    (subst (λ m. slice_range t n (n + m) ≡ w) c.len-width.ensures.value (c.piece_is.ensures.0 c.if-not-piece_is.false))
    c.loop-at.invariant c.in_ok-push.ensures.ok

pub returns : goal.returns
returns c =
    spots_all c.args.spots.now c.loop-at.spots c.args.text.now c.args.k c.args.w.now c.loop-at.at (omega arith) c.loop-at.invariant
