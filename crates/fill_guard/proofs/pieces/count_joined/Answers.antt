use Rattle.std.proofs.Common.{◌≡◌, ◌+◌, ℕ, Some, slice_get, get_or, arith, subst}
use Rattle.std.proofs.lemmas.Bool.{iff_false}
use Rattle.std.proofs.lemmas.Option.{slice_get-get_or}
use Rattle.fill_guard.proofs.MatchLaws.{Scanned, scan_more, scan_not, scan_three, scan_end}
use Rattle.fill_guard.proofs.pieces.count_joined.Goals as goal

pub loop-i-preserved-then-not-goes_on : goal.loop-i-preserved-then-not-goes_on
loop-i-preserved-then-not-goes_on c =
    let ends = c.args.ends.now in
    let b : ℕ = get_or ends c.loop-i.i 0 in
    let at : slice_get ends c.loop-i.i ≡ Some b = slice_get-get_or ends c.loop-i.i 0 (omega (arith, c.requires.paired)) in (
      c.loop-i.invariant.0,
      scan_not c.args.starts.now ends c.args.seconds.now c.requires.starts c.loop-i.i c.loop-i.count (omega arith) c.loop-i.invariant.1 b at
          (iff_false (c.goes_on.ensures b at) c.if-not-goes_on.true),
    )

pub returns-then-count-eq-MOST : goal.returns-then-count-eq-MOST
returns-then-count-eq-MOST c =
    let ends = c.args.ends.now in
    let b : ℕ = get_or ends c.loop-i.i 0 in
    let at : slice_get ends c.loop-i.i ≡ Some b = slice_get-get_or ends c.loop-i.i 0 (omega (arith, c.requires.paired)) in
    let e : c.loop-i.count + 1 ≡ 3 = c.if-count-eq-MOST.true in
    let more =
    scan_more c.args.starts.now ends c.args.seconds.now c.requires.starts c.loop-i.i c.loop-i.count (omega arith) c.loop-i.invariant.1 b at
    ((c.goes_on.ensures b at).0 c.if-not-goes_on.false) in
    scan_three c.args.starts.now ends c.args.seconds.now (c.loop-i.i + 1) (subst (Scanned c.args.starts.now ends c.args.seconds.now (c.loop-i.i + 1)) e more)

pub loop-i-preserved : goal.loop-i-preserved
loop-i-preserved c =
    let ends = c.args.ends.now in
    let b : ℕ = get_or ends c.loop-i.i 0 in
    let at : slice_get ends c.loop-i.i ≡ Some b = slice_get-get_or ends c.loop-i.i 0 (omega (arith, c.requires.paired)) in (
      omega (arith, c.if-count-eq-MOST.false, c.loop-i.invariant.0),
      scan_more c.args.starts.now ends c.args.seconds.now c.requires.starts c.loop-i.i c.loop-i.count (omega arith) c.loop-i.invariant.1 b at
          ((c.goes_on.ensures b at).0 c.if-not-goes_on.false),
    )

pub returns : goal.returns
returns c = scan_end c.args.starts.now c.args.ends.now c.args.seconds.now c.loop-i.i c.loop-i.count (omega arith) c.loop-i.invariant.0 c.loop-i.invariant.1
