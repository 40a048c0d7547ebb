use Rattle.std.proofs.Common.{◌<◌}
use Rattle.fill_guard.proofs.MatchLaws.{Scanned}
use Rattle.fill_guard.proofs.pieces.count_joined.Given as goal

abbrev pub invariant-loop-i : goal.invariant-loop-i
invariant-loop-i l = (l.count < 3) × Scanned l.starts l.ends l.seconds l.i l.count
