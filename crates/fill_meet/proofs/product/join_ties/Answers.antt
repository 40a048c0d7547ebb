use Rattle.std.proofs.Common.{true, false, length, sym, ◌∙◌}
use Rattle.std.proofs.lemmas.Bool.{false≢true}
use Rattle.std.proofs.lemmas.Option.{get_or_from_slice_get}
use Rattle.fill_arena.proofs.Lists.{extends_same, extends_on}
use Rattle.fill_meet.proofs.GuideLaws.{guides_stay}
use Rattle.fill_meet.proofs.Lists.{here}
use Rattle.fill_meet.proofs.Seams.{joined_start, sets_stay, joined_stays, joined_dead, joined_put, joined_end}
use Rattle.fill_meet.proofs.product.join_ties.Goals as goal

pub loop-i-init : goal.loop-i-init
loop-i-init c =
    record {
      extends = extends_same c.args.arena.now;
      memo = c.in_ok-memo.ensures c.args.arena.now;
      guide = c.requires.guide;
      sets = c.requires.sets;
      joined = joined_start c.args.arena.now c.args.live.now c.args.ties.now c.in_ok-edges.edges c.in_ok-edges.ensures;
    }

pub bounds-live-tie : goal.bounds-live-tie
bounds-live-tie c = (c.requires.ties.onward c.loop-i.i c.index-ties-i.result (here _ _ _ c.loop-i-test.true c.index-ties-i.is)).1

pub loop-i-preserved-then-not-live-tie : goal.loop-i-preserved-then-not-live-tie
loop-i-preserved-then-not-live-tie c =
    let inv = c.loop-i.invariant in
    record {
      extends = inv.extends;
      memo = inv.memo;
      guide = inv.guide;
      sets = inv.sets;
      joined = joined_dead c.loop-i.arena c.args.live.now (length c.args.live.now) c.args.ties.now c.requires.ties c.loop-i.i c.loop-i.edges inv.joined c.index-ties-i.result (here _ _ _ c.loop-i-test.true c.index-ties-i.is)
          (λ m. false≢true (sym c.if-not-live-tie.true ∙ get_or_from_slice_get c.args.live.now c.index-ties-i.result.to true false m));
    }

pub join-requires-clause-first : goal.join-requires-clause-first
join-requires-clause-first c = (c.loop-i.invariant.sets c.loop-i.i c.index-ties-i.result (here _ _ _ c.loop-i-test.true c.index-ties-i.is)).0

pub join-requires-clause-second : goal.join-requires-clause-second
join-requires-clause-second c = (c.loop-i.invariant.sets c.loop-i.i c.index-ties-i.result (here _ _ _ c.loop-i-test.true c.index-ties-i.is)).1

pub loop-i-preserved : goal.loop-i-preserved
loop-i-preserved c =
    let inv = c.loop-i.invariant in
    let o = c.join.ensures.extends in
    let done = c.in_ok-join.ensures in
    record {
      extends = extends_on _ _ _ inv.extends o;
      memo = done.memo;
      guide = guides_stay c.loop-i.arena c.join.new.arena o c.args.guide.now inv.guide;
      sets = sets_stay c.loop-i.arena c.join.new.arena o c.args.ties.now inv.sets;
      joined = joined_put c.join.new.arena c.args.live.now (length c.args.live.now) c.args.ties.now c.requires.ties c.loop-i.i c.loop-i.edges
          (joined_stays c.loop-i.arena c.join.new.arena o c.args.live.now c.args.ties.now c.loop-i.i c.loop-i.edges inv.joined) c.index-ties-i.result (here _ _ _ c.loop-i-test.true c.index-ties-i.is) c.join.new.edges done.joined;
    }

pub returns-in_err-join-clause-extends : goal.returns-in_err-join-clause-extends
returns-in_err-join-clause-extends c = extends_on _ _ _ c.loop-i.invariant.extends c.join.ensures.extends

pub returns-clause-joined : goal.returns-clause-joined
returns-clause-joined c = joined_end c.loop-i.arena c.args.live.now (length c.args.live.now) c.args.ties.now c.requires.ties c.loop-i.i c.loop-i.edges c.loop-i.invariant.joined c.loop-i-test.false
