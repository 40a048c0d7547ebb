use Rattle.std.proofs.Common.{◌≤◌, List, ℕ, length, take, sym, subst, ◌∙◌, arith}
use Rattle.fill_tokens.specs.Cuts.{IsRisingListOf}
use Rattle.fill_tokens.specs.Span.{Ends}
use Rattle.fill_doubt.proofs.Flags.{if_ok}
use Rattle.fill_doubt.proofs.Sought.{ends_all, ends_start, ends_step, no_tokens, none_ends}
use Rattle.fill_doubt.proofs.tokens.Tokens.stops.Goals as goal

pub returns-then-count-eq0-clause-stops : goal.returns-then-count-eq0-clause-stops
returns-then-count-eq0-clause-stops c =
    if_ok c.positions.result c.positions.ensures
    (λ ks are. none_ends c.args.seq.now c.args.t.now ks.items (no_tokens c.args.seq.now (sym c.len-count.ensures.value ∙ c.if-count-eq0.true)) (subst (λ n. IsRisingListOf (λ k. k ≤ n) ks.items) c.len.ensures.value are))

pub loop-i-init : goal.loop-i-init
loop-i-init c = record {
  read = c.in_ok-stops.ensures.kept;
  stops = ends_start c.args.seq.now c.args.t.now c.in_ok-stops.stops.items c.token.result c.token.ensures c.in_ok-stops.ensures.ends;
}

pub loop-i-preserved : goal.loop-i-preserved
loop-i-preserved c = record {
  read = c.in_ok-stops-2.ensures.kept;
  stops = ends_step c.args.seq.now c.args.t.now c.as_slice.result.now c.in_ok-stops-2.stops.items c.loop-i.i c.token-in-loop-i.result c.token-in-loop-i.ensures c.in_ok-stops-2.ensures.ends
      (subst (λ (ks : List ℕ). IsRisingListOf (Ends (take c.loop-i.i c.args.seq.now) c.args.t.now) ks) (sym c.as_slice.ensures.value) c.loop-i.invariant.stops);
}

pub returns-clause-stops : goal.returns-clause-stops
returns-clause-stops c =
    let past : length c.args.seq.now ≤ c.loop-i.i = (let n = c.len-count.ensures.value in let t = c.loop-i-test.false in omega arith) in
    ends_all c.args.seq.now c.args.t.now c.loop-i.stops.items c.loop-i.i past c.loop-i.invariant.stops
