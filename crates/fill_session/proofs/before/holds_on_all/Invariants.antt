use Rattle.std.proofs.Common.{take}
use Rattle.std.specs.Prelude.{All}
use Rattle.fill_tree.specs.Guard.{GuardHolds}
use Rattle.fill_session.proofs.before.holds_on_all.Given as goal

abbrev pub invariant-loop-row : goal.invariant-loop-row
invariant-loop-row l = All (λ row. GuardHolds l.sheet row l.guard) (take l.row-index l.rows)
