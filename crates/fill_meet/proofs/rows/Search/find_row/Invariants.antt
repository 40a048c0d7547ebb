use Rattle.std.proofs.Common.{◌≤◌, length}
use Rattle.fill_meet.specs.Rows.{AreDone, IsCovered, IsSearch}
use Rattle.fill_meet.specs.Runs.{Grows}
use Rattle.fill_meet.proofs.Lists.{AllBelow}
use Rattle.fill_meet.proofs.rows.Search.find_row.Given as goal

abbrev pub invariant-loop-i : goal.invariant-loop-i
invariant-loop-i l =
    record {
      start : l.start ≤ length l.self.findings.rows.numbers.items;
      state : IsSearch l.arena l.index l.self;
      grown : Grows l.initial.self.findings.rows.numbers.items l.self.findings.rows.numbers.items;
      done : AllBelow (λ x. AreDone l.arena l.index.labels.sets.items (IsCovered l.arena l.self.findings.rows.numbers.items l.start x)) l.items l.i;
    }
