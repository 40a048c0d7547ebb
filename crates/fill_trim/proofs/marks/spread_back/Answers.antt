use Rattle.std.proofs.Common.{◌≡◌, ◌+◌, ◌-◌, ◌<◌, length, subst, arith}
use Rattle.fill_arena.proofs.Scan.{here}
use Rattle.fill_trim.specs.Marks.{AreMarks}
use Rattle.fill_trim.proofs.Passes.{GoesFrom, goes_more, goes_end}
use Rattle.fill_trim.proofs.marks.spread_back.Goals as goal

pub loop-i-preserved : goal.loop-i-preserved
loop-i-preserved c =
    let n = length c.args.marks.now in
    let edge = c.index-edges-i.result in
    let i = c.loop-i.i - 1 in
    let within : c.loop-i.i - 1 < length c.args.edges.now = omega arith in
    let next : c.loop-i.i ≡ c.loop-i.i - 1 + 1 = omega arith in
    let at = here c.args.edges.now (c.loop-i.i - 1) edge within c.index-edges-i.is in
    let s = subst (λ k. AreMarks n (GoesFrom c.args.edges.now (n - 1) k) c.loop-i.marks) next c.loop-i.invariant.marks in
    record {
      within = omega arith;
      marks = rw c.spread.ensures (goes_more n c.args.edges.now c.requires.edges (n - 1) (c.loop-i.i - 1) c.loop-i.marks edge at s);
    }

pub returns : goal.returns
returns c =
    let n = length c.args.marks.now in
    let none : c.loop-i.i ≡ 0 = omega arith in
    goes_end n c.args.edges.now c.requires.edges (n - 1) c.loop-i.marks (subst (λ k. AreMarks n (GoesFrom c.args.edges.now (n - 1) k) c.loop-i.marks) none c.loop-i.invariant.marks)
