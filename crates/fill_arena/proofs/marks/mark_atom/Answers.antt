use Rattle.std.proofs.Common.{refl, arith, length-set}
use Rattle.fill_arena.proofs.marks.mark_atom.Goals as goal

pub bounds-marks-index : goal.bounds-marks-index
bounds-marks-index c =
    let below = rw c.in-Whole.is at c.requires in
    let lt = below 0 c.in-Whole.sources refl in
    let same = c.index.ensures in
    omega arith

pub bounds-marks-index-in-Sub : goal.bounds-marks-index-in-Sub
bounds-marks-index-in-Sub c =
    let below = rw c.in-Sub.is at c.requires in
    let lt = below 0 c.in-Sub.sources refl in
    let same = c.index-in-Sub.ensures in
    omega arith

pub bounds-marks-index-in-Sub-2 : goal.bounds-marks-index-in-Sub-2
bounds-marks-index-in-Sub-2 c =
    let below = rw c.in-Sub.is at c.requires in
    let lt = below 1 c.in-Sub.lefts refl in
    let same = c.index-in-Sub-2.ensures in
    simp length-set (omega arith)

pub bounds-marks-index-in-Sub-3 : goal.bounds-marks-index-in-Sub-3
bounds-marks-index-in-Sub-3 c =
    let below = rw c.in-Sub.is at c.requires in
    let lt = below 2 c.in-Sub.rights refl in
    let same = c.index-in-Sub-3.ensures in
    simp length-set (omega arith)
