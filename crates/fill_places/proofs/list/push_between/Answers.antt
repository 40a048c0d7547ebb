use Rattle.std.proofs.Common.{arith, ◌≡◌, ℕ, length, refl, subst}
use Rattle.std.proofs.lemmas.Option.{slice_get_read}
use Rattle.fill_tokens.specs.Place.{place_cmp}
use Rattle.fill_text.specs.Lists.{Adds}
use Rattle.fill_places.specs.Wanted.{FromLefts}
use Rattle.fill_places.proofs.RowLaws.{lefts_more}
use Rattle.fill_places.proofs.list.push_between.Goals as goal

pub loop-l-preserved : goal.loop-l-preserved
loop-l-preserved c =
    lefts_more c.args.token_set c.args.t.now c.args.k c.args.lefts.now c.requires.lefts.rising c.loop-l.l-index c.l-item.result
    (slice_get_read c.args.lefts.now (length c.args.lefts.now) c.loop-l.l-index c.l-item.result refl (omega arith) c.l-item.is)
    c.args.out.now c.loop-l.out c.push_left.new.out c.loop-l.invariant c.in_ok-push_left.ensures

pub returns : goal.returns
returns c =
    let e : c.loop-l.l-index ≡ length c.args.lefts.now = omega arith in
    subst (λ (m : ℕ). Adds place_cmp c.args.out.now c.loop-l.out (FromLefts c.args.token_set c.args.t.now c.args.k c.args.lefts.now m)) e c.loop-l.invariant

pub push_left-requires-clause-few : goal.push_left-requires-clause-few
push_left-requires-clause-few c = (c.requires.lefts.each c.loop-l.l-index c.l-item.result
    (slice_get_read c.args.lefts.now (length c.args.lefts.now) c.loop-l.l-index c.l-item.result refl (omega arith) c.l-item.is)).1
