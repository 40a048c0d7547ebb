use Rattle.std.proofs.Common.{◌≡◌, ◌-◌, ◌≤◌, ℕ, List, All, Some, length}
use Rattle.fill_records.specs.Records.{records_of}
use Rattle.fillcsv_filling.specs.Long.{AreFit, IsLong, long_of}
use Rattle.fillcsv_filling.specs.Reading.{most_rows}
use Rattle.fillcsv_filling.specs.Taught.{IsTaught}
use Rattle.fillcsv_filling.proofs.WrittenSoFar.{WrittenSoFar}
use Rattle.fillcsv_filling.specs.declared.reading.TheConstants.{MOST_LONG_RECORDS}
use Rattle.fillcsv_filling.proofs.writing.write_blocks.Given as goal

-- what is told of is of the rows so far, and these are written where the pass is of these bytes
abbrev pub invariant-loop-rows : goal.invariant-loop-rows
invariant-loop-rows g l = record {
  fit : AreFit l.sheet 1000 l.written.shown.items;
  below : All (λ it. it.number ≤ l.done) l.written.shown.items;
  count : l.done ≤ MOST_LONG_RECORDS;
  later : g.O.Sink.faults l.initial.out ≤ g.O.Sink.faults l.out;
  told : (bytes : List ℕ) → l.fn.pass ≡ Some (records_of bytes) → IsLong (long_of bytes l.sheet) → IsTaught (long_of bytes l.sheet) l.learned l.fn.basis
      → WrittenSoFar (long_of bytes l.sheet) l.learned l.fn.basis l.done l.pass (g.O.Sink.written l.initial.out) (g.O.Sink.written l.out) l.written l.basis;
}

abbrev pub decreases-loop-rows : goal.decreases-loop-rows
decreases-loop-rows g l = MOST_LONG_RECORDS - l.done
