use Rattle.std.proofs.Common.{◌↔◌, ◌≤◌, length, drop, Option, None, IsTrue}
use Rattle.fill_doubt.specs.Rows.{RowText, RowsHave}
use Rattle.fill_doubt.proofs.conditions.lacks.Given as goal

abbrev pub invariant-loop-left : goal.invariant-loop-left
invariant-loop-left l = record {
  within : l.left ≤ length l.conditions;
  lacks : IsTrue l.lacks ↔ RowsHave (drop l.left l.conditions) None;
  some : IsTrue l.some ↔ ((o : Option RowText) × RowsHave (drop l.left l.conditions) o);
}

abbrev pub decreases-loop-left : goal.decreases-loop-left
decreases-loop-left l = l.left
