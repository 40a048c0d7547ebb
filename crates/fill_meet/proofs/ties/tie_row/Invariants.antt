use Rattle.std.proofs.Common.{List}
use Rattle.fill_arena.specs.declared.entry.Entry.{Entry}
use Rattle.fill_meet.specs.Bits.{HasRoom}
use Rattle.fill_meet.specs.Ties.{IsInRow, SweepState}
use Rattle.fill_meet.proofs.ties.tie_row.Given as goal

abbrev pub invariant-loop-p : goal.invariant-loop-p
invariant-loop-p l =
    record {
      state : (c : List Entry) → SweepState c l.graphs l.k (λ b. ⊥) l.initial.sweep → SweepState c l.graphs l.k (IsInRow l.index.labels.of.items l.numbers l.fn.row.start l.p) l.sweep;
      room : HasRoom l.graphs.height l.graphs.width l.sweep.reached;
    }
