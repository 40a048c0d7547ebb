use Rattle.std.proofs.Common.{All, Contains, take}
use Rattle.fillcsv_blocks.specs.declared.numbered.Numbered.{Numbered}
use Rattle.fillcsv_filling.proofs.sheet.has_rows.Given as goal

-- the block has the rows so far
abbrev pub invariant-loop-row : goal.invariant-loop-row
invariant-loop-row l = All (λ (it : Numbered). Contains l.block.numbers it.number) (take l.row-index l.rows)
