use Rattle.std.proofs.Common.{◌≡◌, ◌+◌, ◌-◌, ◌<◌, length, sym, subst, arith}
use Rattle.std.proofs.lemmas.Option.{slice_get_within}
use Rattle.fill_meet.proofs.Lists.{here}
use Rattle.fill_meet.proofs.Streams.{ClosedFrom, close_spread, kept_spread}
use Rattle.fill_meet.proofs.product.spread_back.Goals as goal

pub loop-i-init : goal.loop-i-init
loop-i-init c = record { within = omega arith; extends = λ m h. h; closed = λ k t le at. (let w = slice_get_within c.args.ties.now k t at in absurd (omega arith)) }

pub bounds-ties-i : goal.bounds-ties-i
bounds-ties-i c = let le = c.loop-i.invariant.within in let lt = c.loop-i-test.true in omega arith

pub spread-requires-clause-from : goal.spread-requires-clause-from
spread-requires-clause-from c =
    let within : c.loop-i.i - 1 < length c.args.ties.now = omega arith in
    let on = c.requires.onward (c.loop-i.i - 1) c.index-ties-i.result (here c.args.ties.now (c.loop-i.i - 1) c.index-ties-i.result within c.index-ties-i.is) in
    subst (λ n. c.index-ties-i.result.to < n) (sym c.loop-i.auto.marks) on.1

pub spread-requires-clause-to : goal.spread-requires-clause-to
spread-requires-clause-to c =
    let within : c.loop-i.i - 1 < length c.args.ties.now = omega arith in
    let on = c.requires.onward (c.loop-i.i - 1) c.index-ties-i.result (here c.args.ties.now (c.loop-i.i - 1) c.index-ties-i.result within c.index-ties-i.is) in
    let less = on.0 in
    let past = on.1 in
    let lt : c.index-ties-i.result.from < length c.args.marks.now = omega arith in
    subst (λ n. c.index-ties-i.result.from < n) (sym c.loop-i.auto.marks) lt

pub loop-i-preserved : goal.loop-i-preserved
loop-i-preserved c =
    let tie = c.index-ties-i.result in
    let i = c.loop-i.i - 1 in
    let within : c.loop-i.i - 1 < length c.args.ties.now = omega arith in
    let next : c.loop-i.i ≡ c.loop-i.i - 1 + 1 = omega arith in
    let at = here c.args.ties.now i tie within c.index-ties-i.is in
    let on = c.requires.onward i tie at in
    let less = on.0 in
    let past = on.1 in
    let lf : tie.from < length c.args.marks.now = omega arith in
    let from = subst (λ n. tie.from < n) (sym c.loop-i.auto.marks) lf in
    let to = subst (λ n. tie.to < n) (sym c.loop-i.auto.marks) on.1 in
    let closed = subst (λ k. ClosedFrom k c.args.ties.now c.loop-i.marks) next c.loop-i.invariant.closed in
    record {
      within = omega arith;
      extends = rw c.spread.ensures (λ m h. kept_spread c.loop-i.marks tie.to tie.from m from (c.loop-i.invariant.extends m h));
      closed = rw c.spread.ensures (close_spread (length c.args.marks.now) c.args.ties.now c.requires c.loop-i.marks i tie at closed from to);
    }

pub returns : goal.returns
returns c = record { extends = c.loop-i.invariant.extends; closed = λ k t at. c.loop-i.invariant.closed k t (omega arith) at }
