use Rattle.std.proofs.Common.{◌≡◌, ◌+◌, ◌-◌, subst, arith}
use Rattle.fill_arena.proofs.Marking.{IsClosedFrom, closed_more}
use Rattle.fill_arena.proofs.marks.close.Goals as goal

pub loop-i-preserved : goal.loop-i-preserved
loop-i-preserved c =
    let arena = c.args.arena.now in
    let old = c.args.marks.now in
    let i = c.loop-i.i in
    let next : i ≡ i - 1 + 1 = omega arith in
    let before = subst (λ k. IsClosedFrom arena k old c.loop-i.marks) next c.loop-i.invariant.closed in
    let within = c.loop-i.invariant.within in
    let long = c.spread.auto.marks in
    record {
      within = omega arith;
      closed = closed_more arena c.keeps_made.ensures (i - 1) old c.loop-i.marks c.spread.new.marks before c.spread.ensures;
    }
