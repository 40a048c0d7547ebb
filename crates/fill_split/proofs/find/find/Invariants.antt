use Rattle.std.proofs.Common.{◌≡◌, ◌+◌, ◌<◌, ◌≤◌}
use Rattle.std.specs.Prelude.{MatchOption}
use Rattle.fill_split.specs.Keeping.{Keeps, KeepsMarks}
use Rattle.fill_split.proofs.Choosing.{ChosenYet}
use Rattle.fill_split.proofs.find.find.Given as goal

abbrev pub invariant-loop-i : goal.invariant-loop-i
invariant-loop-i g l =
    let m = g.M.Maker in
    record {
      base : m.base l.maker ≡ m.base l.initial.maker;
      older : Keeps (m.stands l.initial.maker) (m.stands l.maker);
      marks : KeepsMarks (m.valid l.initial.maker) (m.valid l.maker) (m.marked l.initial.maker) (m.marked l.maker);
      cost : l.steps ≤ l.initial.steps + l.i;
      within : MatchOption l.best (Unit {0}) (λ c. c.branch < l.i);
      yet : ChosenYet (m.stands l.initial.maker) (m.stands l.maker) l.rule (m.fits (m.base l.initial.maker)) (m.weight (m.base l.initial.maker)) l.branches l.single l.i l.best;
    }
