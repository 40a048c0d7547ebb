use Rattle.std.proofs.Common.{arith, ◌≡◌, ℕ, length, refl, subst}
use Rattle.std.proofs.lemmas.Option.{slice_get_read}
use Rattle.fill_places.specs.Sides.{LeftAt}
use Rattle.fill_places.specs.Entries.{AddsEntries, EndsWithAny}
use Rattle.fill_places.proofs.EntryLaws.{grows_all}
use Rattle.fill_places.proofs.LayerLaws.{any_end_more, next_lefts}
use Rattle.fill_places.proofs.lefts.longer_lefts.Goals as goal

pub loop-e-preserved : goal.loop-e-preserved
loop-e-preserved c = any_end_more (LeftAt c.args.token_set c.args.t.now) (length c.args.t.now) c.args.layer.now c.args.j c.loop-e.e-index c.e-item.result
    c.in_ok-out.out.items c.loop-e.out.items c.push_lefts_after.new.out.items c.requires.layer
    (slice_get_read c.args.layer.now (length c.args.layer.now) c.loop-e.e-index c.e-item.result refl (omega arith) c.e-item.is)
    c.loop-e.invariant c.in_ok-push_lefts_after.ensures

pub returns : goal.returns
returns c =
    let e : c.loop-e.e-index ≡ length c.args.layer.now = omega arith in
    let all = subst (λ (m : ℕ). AddsEntries (LeftAt c.args.token_set c.args.t.now) (length c.args.t.now) c.in_ok-out.out.items c.loop-e.out.items (EndsWithAny c.args.layer.now m)) e c.loop-e.invariant in
    next_lefts c.args.token_set c.args.t.now (length c.args.t.now) c.args.layer.now c.args.j c.loop-e.out.items c.requires.layer
    (grows_all (LeftAt c.args.token_set c.args.t.now) (length c.args.t.now) (EndsWithAny c.args.layer.now (length c.args.layer.now)) c.in_ok-out.out.items c.loop-e.out.items c.in_ok-out.ensures.items all)

pub push_lefts_after-requires-clause-short : goal.push_lefts_after-requires-clause-short
push_lefts_after-requires-clause-short c =
    let few = (c.requires.layer.each c.loop-e.e-index c.e-item.result
    (slice_get_read c.args.layer.now (length c.args.layer.now) c.loop-e.e-index c.e-item.result refl (omega arith) c.e-item.is)).1 in
    omega (arith, c.requires.short)
