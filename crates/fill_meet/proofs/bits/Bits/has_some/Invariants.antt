use Rattle.std.proofs.Common.{ℕ, ◌/◌, ◌<◌}
use Rattle.fill_meet.specs.Bits.{IsBit}
use Rattle.fill_meet.proofs.bits.Bits.has_some.Given as goal

abbrev pub invariant-loop-k : goal.invariant-loop-k
invariant-loop-k l = (v : ℕ) → v / 64 < l.k → IsBit l.self l.row v → ⊥
