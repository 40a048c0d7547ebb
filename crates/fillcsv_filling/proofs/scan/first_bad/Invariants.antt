use Rattle.std.proofs.Common.{◌≡◌, ◌+◌, List, Some, drop, take}
use Rattle.fill_records.specs.Texts.{first_bad}
use Rattle.fill_output.specs.Fields.{Fields}
use Rattle.fill_sheet.specs.Sheet.{headers, row_records}
use Rattle.fillcsv_filling.proofs.scan.first_bad.Given as goal

-- none so far is bad, where the records are known
abbrev pub invariant-loop-n : goal.invariant-loop-n
invariant-loop-n g l = record {
  left : (all : List Fields) → l.fn.pass ≡ Some all → l.pass ≡ Some (drop l.n all);
  none : (all : List Fields) → l.fn.pass ≡ Some all →
      first_bad l.columns (headers l.header + 1) (row_records l.most l.header all) ≡ first_bad l.columns (l.n + 1) (drop l.n (take l.most all));
}
