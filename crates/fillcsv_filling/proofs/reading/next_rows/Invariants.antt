use Rattle.std.proofs.Common.{◌≡◌, ◌+◌, ◌≤◌, List, All, Some, drop, length, take}
use Rattle.fill_sheet.specs.Columns.{rising}
use Rattle.fill_output.specs.Fields.{Fields}
use Rattle.fillcsv_blocks.specs.Merged.{IsReadable}
use Rattle.fillcsv_filling.specs.Reading.{AreFrom, numbered}
use Rattle.fillcsv_filling.specs.declared.reading.TheConstants.{MOST_LONG_RECORDS}
use Rattle.fillcsv_filling.proofs.reading.next_rows.Given as goal

-- the first rows so far, and what is left, where it is known
abbrev pub invariant-loop-n : goal.invariant-loop-n
invariant-loop-n g l = record {
  each : length l.rows.items ≡ l.n;
  few : l.done + l.n ≤ MOST_LONG_RECORDS;
  text : All (IsReadable (rising l.sheet.inputs.now) l.sheet.output) l.rows.items;
  from : AreFrom (l.done + 1) l.rows.items;
  rows : (left : List Fields) → l.fn.pass ≡ Some left → l.rows.items ≡ numbered (l.done + 1) (take l.n left);
  left : (left : List Fields) → l.fn.pass ≡ Some left → l.pass ≡ Some (drop l.n left);
}
