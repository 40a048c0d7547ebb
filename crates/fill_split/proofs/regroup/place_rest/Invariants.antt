use Rattle.std.proofs.Common.{◌≡◌, ◌+◌, ◌-◌, ◌*◌, ◌≤◌}
use Rattle.fill_split.specs.Keeping.{Keeps, KeepsMarks}
use Rattle.fill_split.proofs.Resting.{Grows}
use Rattle.fill_split.proofs.regroup.place_rest.Given as goal

abbrev pub invariant-loop-i : goal.invariant-loop-i
invariant-loop-i g l =
    let m = g.M.Maker in
    record {
      base : m.base l.maker ≡ m.base l.initial.maker;
      older : Keeps (m.stands l.initial.maker) (m.stands l.maker);
      marks : KeepsMarks (m.valid l.initial.maker) (m.valid l.maker) (m.marked l.initial.maker) (m.marked l.maker);
      cost : l.steps ≤ l.initial.steps + 8 * (l.i - l.at);
      grows : Grows (m.stands l.initial.maker) (m.stands l.maker) (m.fits (m.base l.initial.maker)) (m.weight (m.base l.initial.maker)) l.singles l.at l.initial.folds l.i l.folds;
    }
