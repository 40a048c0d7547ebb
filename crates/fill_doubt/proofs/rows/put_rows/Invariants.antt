use Rattle.std.proofs.Common.{◌+◌}
use Rattle.fill_doubt.specs.Answers.{Covers, TextsHave}
use Rattle.fill_doubt.proofs.Keyed.{RowsBelow, Ways}
use Rattle.fill_doubt.proofs.rows.put_rows.Given as goal

abbrev pub invariant-loop-i : goal.invariant-loop-i
invariant-loop-i l = Covers (RowsBelow l.look l.conditions (l.i + 1)) (TextsHave l.initial.found) (TextsHave l.found) (Ways l.look l.conditions)
