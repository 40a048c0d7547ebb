use Rattle.std.proofs.Common.{◌≡◌, ◌<◌, ◌≤◌, ◌↔◌, ℕ, slice_get}
use Rattle.fill_trim.specs.Marks.{IsMarked}
use Rattle.fill_trim.proofs.marks.keep_common.Given as goal

abbrev pub invariant-loop-m : goal.invariant-loop-m
invariant-loop-m l =
    record {
      before : (k : ℕ) → k < l.m → IsMarked l.marks k ↔ (IsMarked l.fn.marks k × IsMarked l.others k);
      after : (k : ℕ) → l.m ≤ k → slice_get l.marks k ≡ slice_get l.fn.marks k;
    }
