use Rattle.std.proofs.Common.{◌≡◌, ◌≤◌, ◌+◌, drop, length}
use Rattle.fill_sheet.specs.Columns.{rising}
use Rattle.fillcsv_blocks.specs.Merged.{merged, no_rows, with_rows}
use Rattle.fillcsv_blocks.proofs.part.Part.of.Given as goal

abbrev pub invariant-loop-row : goal.invariant-loop-row
invariant-loop-row l =
    (l.at ≤ length l.rows.second.now)
    × (l.part.sheet.inputs ≡ rising l.rows.inputs.now)
    × (length l.part.sheet.rows ≤ l.row-index + l.at)
    × (with_rows l.rows.output l.part (merged (drop l.row-index l.rows.first.now) (drop l.at l.rows.second.now)) ≡ with_rows l.rows.output (no_rows (rising l.rows.inputs.now)) (merged l.rows.first.now l.rows.second.now))
