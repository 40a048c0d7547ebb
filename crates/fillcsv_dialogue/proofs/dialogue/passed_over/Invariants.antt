use Rattle.std.proofs.Common.{◌≡◌, ◌++◌, take}
use Rattle.std.specs.Prelude.{map}
use Rattle.fillcsv_dialogue.specs.Replies.{rows_of}
use Rattle.fillcsv_dialogue.proofs.dialogue.passed_over.Given as goal

abbrev pub invariant-loop-cell : goal.invariant-loop-cell
invariant-loop-cell l = l.rows.items ≡ rows_of l.kept ++ map (λ r. r.row) (take l.cell-index l.refused)
