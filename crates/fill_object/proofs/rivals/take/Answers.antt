use Rattle.std.proofs.Common.{◌≡◌, ◌<◌, length, refl, sym, ap, subst, ◌∙◌}
use Rattle.std.proofs.Math.ListN.{set}
use Rattle.fill_arena.proofs.Scan.{here}
use Rattle.fill_object.specs.Leasts.{Takes}
use Rattle.fill_object.proofs.Gains.{pushed, not_taken, replaced}
use Rattle.fill_object.proofs.rivals.take.Goals as goal

pub returns-then-serves : goal.returns-then-serves
returns-then-serves g c =
    let rivals = c.loop-i.rivals.items in
    let i = c.loop-i.i in
    let x = c.index.result.now in
    let end : length c.as_slice-i-end.result.now ≡ length c.loop-i.rivals.items = ap length (c.as_slice-i-end.ensures.value ∙ sym c.loop-i.invariant) in
    let lt : c.loop-i.i < length c.loop-i.rivals.items = subst (λ m. c.loop-i.i < m) end c.loop-i-test.true in
    subst (λ xs. Takes (g.T.Rival.serving c.args.prices.now) xs c.args.next rivals) c.loop-i.invariant
    (not_taken (g.T.Rival.serving c.args.prices.now) rivals c.args.next i x (here rivals i x lt c.index.ensures) (c.if-serves.ensures refl))

pub returns-then-serves-2 : goal.returns-then-serves-2
returns-then-serves-2 g c =
    let rivals = c.loop-i.rivals.items in
    let i = c.loop-i.i in
    let x = c.index-in-loop-i.result.now in
    let end : length c.as_slice-i-end.result.now ≡ length c.loop-i.rivals.items = ap length (c.as_slice-i-end.ensures.value ∙ sym c.loop-i.invariant) in
    let lt : c.loop-i.i < length c.loop-i.rivals.items = subst (λ m. c.loop-i.i < m) end c.loop-i-test.true in
    subst (λ xs. Takes (g.T.Rival.serving c.args.prices.now) xs c.args.next (set rivals i c.args.next)) c.loop-i.invariant
    (replaced (g.T.Rival.serving c.args.prices.now) rivals c.args.next i x (here rivals i x lt c.index-in-loop-i.ensures) (c.if-serves-2.ensures refl))

pub returns : goal.returns
returns g c =
    let rivals = c.loop-i.rivals.items in
    subst (λ xs. Takes (g.T.Rival.serving c.args.prices.now) xs c.args.next c.push.new.self.items) c.loop-i.invariant
    (subst (Takes (g.T.Rival.serving c.args.prices.now) rivals c.args.next) (sym c.in-Ok.ensures.items) (pushed (g.T.Rival.serving c.args.prices.now) rivals c.args.next))
