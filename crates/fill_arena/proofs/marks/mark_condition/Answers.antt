use Rattle.std.proofs.Common.{refl, arith}
use Rattle.fill_arena.proofs.marks.mark_condition.Goals as goal

pub bounds-marks-index : goal.bounds-marks-index
bounds-marks-index c =
    let below = rw c.in-Some.is at c.requires in
    let lt = below 0 c.in-Some.atoms refl in
    let same = c.index.ensures in
    omega arith
