use Rattle.std.proofs.Common.{◌≡◌, ◌≤◌, ◌-◌, List, ℕ, drop, sym, subst, ◌∙◌, arith}
use Rattle.fill_tokens.specs.Cuts.{IsRisingListOf}
use Rattle.fill_tokens.specs.Span.{Begins}
use Rattle.fill_doubt.proofs.Flags.{if_ok}
use Rattle.fill_doubt.proofs.Sought.{starts_all, starts_start, starts_step, no_tokens, none_starts}
use Rattle.fill_doubt.proofs.tokens.Tokens.starts.Goals as goal

pub returns-then-count-eq0-clause-starts : goal.returns-then-count-eq0-clause-starts
returns-then-count-eq0-clause-starts c =
    if_ok c.positions.result c.positions.ensures
    (λ ks are. none_starts c.args.seq.now c.args.t.now ks.items (no_tokens c.args.seq.now (sym c.len-count.ensures.value ∙ c.if-count-eq0.true)) (subst (λ n. IsRisingListOf (λ k. k ≤ n) ks.items) c.len.ensures.value are))

pub loop-left-init : goal.loop-left-init
loop-left-init c =
    let n = c.len-count.ensures.value in
    let t = c.if-count-eq0.false in
    record {
      within = omega arith;
      read = c.in_ok-starts.ensures.kept;
      starts = starts_start c.args.seq.now c.args.t.now c.in_ok-starts.starts.items (c.len-count.result - 1) c.token.result (omega arith) c.token.ensures c.in_ok-starts.ensures.starts;
    }

pub loop-left-preserved : goal.loop-left-preserved
loop-left-preserved c =
    let t = c.loop-left-test.true in
    let w = c.loop-left.invariant.within in
    record {
      within = omega arith;
      read = c.in_ok-starts-2.ensures.kept;
      starts = starts_step c.args.seq.now c.args.t.now c.as_slice.result.now c.in_ok-starts-2.starts.items (c.loop-left.left - 1) c.loop-left.left c.token-in-loop-left.result (omega arith) c.token-in-loop-left.ensures c.in_ok-starts-2.ensures.starts
          (subst (λ (ks : List ℕ). IsRisingListOf (Begins (drop c.loop-left.left c.args.seq.now) c.args.t.now) ks) (sym c.as_slice.ensures.value) c.loop-left.invariant.starts);
    }

pub returns-clause-starts : goal.returns-clause-starts
returns-clause-starts c =
    let e : c.loop-left.left ≡ 0 = (let t = c.loop-left-test.false in omega arith) in
    starts_all c.args.seq.now c.args.t.now c.loop-left.starts.items c.loop-left.left e c.loop-left.invariant.starts
