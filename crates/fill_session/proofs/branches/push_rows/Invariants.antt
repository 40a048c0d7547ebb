use Rattle.std.proofs.Common.{◌≡◌, ◌++◌, List, take}
use Rattle.fill_tree.specs.declared.user.Example.{Example}
use Rattle.fill_session.specs.Edits.{rows_of}
use Rattle.fill_session.specs.Folded.{ArePicked}
use Rattle.fill_session.proofs.branches.push_rows.Given as goal

abbrev pub invariant-loop-place : goal.invariant-loop-place
invariant-loop-place l = (list : List Example) → ArePicked l.examples l.places list → l.rows ≡ l.fn.rows ++ take l.place-index (rows_of list)
