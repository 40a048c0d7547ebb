use Rattle.std.proofs.Common.{◌≤◌, ℕ, take}
use Rattle.fill_arena.specs.Entries.{AreInPool}
use Rattle.fill_arena.proofs.entries.first_mark.Given as goal

-- none of the entries so far is a set of places
abbrev pub invariant-loop-i : goal.invariant-loop-i
invariant-loop-i l = record {
  past : l.from ≤ l.i;
  same : (n : ℕ) → AreInPool 0 (take l.i l.stored) n → AreInPool 0 (take l.from l.stored) n;
}
