use Rattle.std.proofs.Common.{◌≡◌, refl}
use Rattle.std.proofs.lemmas.Bool.{false≢true}
use Rattle.fill_tokens.specs.declared.place.Place.{Place}
use Rattle.fill_arena.proofs.Scan.{here, scan_more, scan_end}
use Rattle.fill_arena.proofs.holds.has_place.Goals as goal

pub returns-then-same : goal.returns-then-same
returns-then-same c =
    let p = c.index-places-i.result in
    let same : p ≡ c.args.place.now = c.same.ensures.0 c.if-same.true in
    let there = here c.args.places.now c.loop-i.i p c.loop-i-test.true c.index-places-i.is in
    ((λ _. (c.loop-i.i, rw (← same) there)), (λ _. refl))

pub loop-i-preserved : goal.loop-i-preserved
loop-i-preserved c =
    let p = c.index-places-i.result in
    scan_more (λ (q : Place). q ≡ c.args.place.now) c.args.places.now c.loop-i.i p (here c.args.places.now c.loop-i.i p c.loop-i-test.true c.index-places-i.is) c.loop-i.invariant
    (λ same. let yes = c.same.ensures.1 same in let not = c.if-same.false in cc)

pub returns : goal.returns
returns c = ((λ u. absurd (false≢true u)), (λ h. absurd (scan_end (λ (q : Place). q ≡ c.args.place.now) c.args.places.now c.loop-i.i c.loop-i-test.false c.loop-i.invariant (c.args.place.now, h, refl))))
