use Rattle.std.proofs.Common.{ℕ, ◌≡◌, ◌≤◌, length, Some, slice_get}
use Rattle.fill_trim.specs.Marks.{IsMarked}
use Rattle.fill_meet.specs.declared.ties.Tie.{Tie}
use Rattle.fill_meet.proofs.product.spread_back.Given as goal

abbrev pub invariant-loop-i : goal.invariant-loop-i
invariant-loop-i l =
    record {
      within : l.i ≤ length l.ties;
      extends : (m : ℕ) → IsMarked l.initial.marks m → IsMarked l.marks m;
      closed : (k : ℕ) (t : Tie) → l.i ≤ k → slice_get l.ties k ≡ Some t → IsMarked l.marks t.to → IsMarked l.marks t.from;
    }

abbrev pub decreases-loop-i : goal.decreases-loop-i
decreases-loop-i l = l.i
