use Rattle.std.proofs.Common.{◌≡◌, arith, subst}
use Rattle.fill_tokens.specs.Kind.{run_has}
use Rattle.fill_spans.specs.Read.{AreRead}
use Rattle.fill_spans.proofs.runs.runs.Goals as goal

pub returns : goal.returns
returns c =
    let e : c.loop-i.i ≡ c.len.result = omega (arith, c.len-i-end.ensures.value, c.len.ensures.value) in
    c.in_ok-finish.ensures c.args.class c.args.t.now c.len.ensures.value
    (subst (λ n. AreRead (run_has c.args.class) c.args.t.now n c.loop-i.pieces.starts.items c.loop-i.pieces.ends.items c.loop-i.run) e c.loop-i.invariant)
