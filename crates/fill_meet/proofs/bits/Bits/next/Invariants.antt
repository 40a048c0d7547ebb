use Rattle.std.proofs.Common.{ℕ, ◌-◌, ◌<◌, ◌≤◌}
use Rattle.fill_meet.specs.Bits.{IsBit}
use Rattle.fill_meet.proofs.bits.Bits.next.Given as goal

abbrev pub invariant-loop-column : goal.invariant-loop-column
invariant-loop-column l =
    record {
      past : l.from ≤ l.column;
      within : l.column ≤ l.end;
      none : (v : ℕ) → l.from ≤ v → v < l.column → IsBit l.self l.row v → ⊥;
    }

abbrev pub decreases-loop-column : goal.decreases-loop-column
decreases-loop-column l = l.end - l.column
