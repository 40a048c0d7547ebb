use Rattle.std.proofs.Common.{ℕ, List, All, take}
use Rattle.fillcsv_filling.specs.Long.{IsLong, long_of}
use Rattle.fillcsv_filling.specs.Rows.{GivesNone, IsRow}
use Rattle.fillcsv_filling.proofs.learning.gives_any.Given as goal

-- none so far gives a text
abbrev pub invariant-loop-row : goal.invariant-loop-row
invariant-loop-row l = (bytes : List ℕ) → IsLong (long_of bytes l.sheet) → All (IsRow (long_of bytes l.sheet)) l.rows → All (GivesNone (long_of bytes l.sheet)) (take l.row-index l.rows)
