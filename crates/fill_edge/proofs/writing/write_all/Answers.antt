use Rattle.std.proofs.Common.{arith}
use Rattle.fill_edge.proofs.Pieces.{Appends-more}
use Rattle.fill_edge.proofs.writing.write_all.Goals as goal

pub loop-done-preserved : goal.loop-done-preserved
loop-done-preserved g c = record {
  within = omega (arith, c.in-Ok.ensures.bound.1);
  written = Appends-more _ _ _ _ _ _ c.loop-done.invariant.written (rw c.split_at.ensures.back at c.in-Ok.ensures.appended);
  same = search (c.in-Ok.ensures.taken, c.loop-done.invariant.same);
  later = omega (arith, c.in-Ok.ensures.later);
  unchanged = λ none. absurd (let no : ⊥ = omega (arith, c.in-Ok.ensures.bound.0, none) in no);
}
