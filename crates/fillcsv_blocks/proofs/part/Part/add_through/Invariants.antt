use Rattle.std.proofs.Common.{◌≡◌, ◌≤◌, ◌+◌, ◌-◌, List, drop, length}
use Rattle.fillcsv_blocks.specs.Merged.{placed_in, with_rows}
use Rattle.fillcsv_blocks.specs.declared.numbered.Numbered.{Numbered}
use Rattle.fillcsv_blocks.proofs.part.Part.add_through.Given as goal

abbrev pub invariant-loop-next : goal.invariant-loop-next
invariant-loop-next l =
    (l.self.sheet.inputs ≡ l.fn.self.sheet.inputs)
    × (length l.self.sheet.rows ≤ length l.fn.self.sheet.rows + (l.next - l.at))
    × ((above : List Numbered → List Numbered) → with_rows l.rows.output l.self (placed_in l.row above (drop l.next l.rows.second.now)) ≡ with_rows l.rows.output l.fn.self (placed_in l.row above (drop l.at l.rows.second.now)))
