use Rattle.std.proofs.Common.{◌≡◌, List, take}
use Rattle.fill_tree.specs.declared.user.Example.{Example}
use Rattle.fill_session.specs.Branches.{all_rows}
use Rattle.fill_session.specs.Folded.{ArePickedAll}
use Rattle.fill_session.proofs.branches.rows_in_order.Given as goal

abbrev pub invariant-loop-fold : goal.invariant-loop-fold
invariant-loop-fold l = (lists : List (List Example)) → ArePickedAll l.examples l.folds lists → l.rows ≡ all_rows (take l.fold-index lists)
