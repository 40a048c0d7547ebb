use Rattle.std.proofs.Common.{◌≡◌, ◌≤◌, ◌+◌, ◌-◌, drop, length}
use Rattle.fillcsv_blocks.specs.Merged.{with_rows}
use Rattle.fill_sheet.specs.declared.sheet.TheConstants.{MOST_ROWS}
use Rattle.fillcsv_blocks.proofs.part.Part.add_from.Given as goal

abbrev pub invariant-loop-next : goal.invariant-loop-next
invariant-loop-next l =
    (l.self.sheet.inputs ≡ l.fn.self.sheet.inputs)
    × (length l.self.sheet.rows + (length l.rows.second.now - l.next) ≤ MOST_ROWS)
    × (with_rows l.rows.output l.self (drop l.next l.rows.second.now) ≡ with_rows l.rows.output l.fn.self (drop l.at l.rows.second.now))
