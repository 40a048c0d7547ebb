use Rattle.std.proofs.Common.{length, ◌+◌, ◌-◌, []}
use Rattle.fill_meet.proofs.Merge.{Merged}
use Rattle.fill_meet.proofs.apart.share_place.Given as goal

abbrev pub invariant-loop-i : goal.invariant-loop-i
invariant-loop-i l = Merged l.xs l.ys l.i l.j []

abbrev pub decreases-loop-i : goal.decreases-loop-i
decreases-loop-i l = (length l.xs - l.i) + (length l.ys - l.j)
