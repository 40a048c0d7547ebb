use Rattle.std.proofs.Common.{◌≡◌, ◌-◌, ℕ, List, length, Some, slice_get}
use Rattle.fill_arena.specs.declared.entry.Entry.{Entry}
use Rattle.fill_meet.specs.Bits.{HasRoom}
use Rattle.fill_meet.specs.Ties.{IsInRowTo, SweepState}
use Rattle.fill_meet.proofs.ties.tie_set.Given as goal

abbrev pub invariant-loop-l : goal.invariant-loop-l
invariant-loop-l l =
    record {
      state : (c : List Entry) (numbers : List ℕ) (start p : ℕ) → SweepState c l.graphs l.k (IsInRowTo l.index.labels.of.items numbers start p l.number 0) l.initial.sweep → SweepState c l.graphs l.k (IsInRowTo l.index.labels.of.items numbers start p l.number l.l) l.sweep;
      label : (v : ℕ) → slice_get l.index.labels.of.items l.l ≡ Some v → v ≡ l.number;
      room : HasRoom l.graphs.height l.graphs.width l.sweep.reached;
    }

abbrev pub decreases-loop-l : goal.decreases-loop-l
decreases-loop-l l = length l.graphs.ys.now - l.l
