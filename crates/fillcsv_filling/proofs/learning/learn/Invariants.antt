use Rattle.std.proofs.Common.{◌≡◌, ◌-◌, ◌≤◌, ℕ, List, All, Some}
use Rattle.fill_records.specs.Records.{records_of}
use Rattle.fill_tree.specs.declared.user.TheConstants.{MOST_EXAMPLES}
use Rattle.fillcsv_filling.specs.Long.{AreFit, IsLong, long_of}
use Rattle.fillcsv_filling.proofs.LearnedSoFar.{LearnedSoFar}
use Rattle.fillcsv_filling.specs.declared.reading.TheConstants.{MOST_LONG_RECORDS}
use Rattle.fillcsv_filling.proofs.learning.learn.Given as goal

-- what is kept is of the rows so far, and what they taught is known where the pass is of these bytes
abbrev pub invariant-loop-rows : goal.invariant-loop-rows
invariant-loop-rows g l = record {
  fit : AreFit l.sheet MOST_EXAMPLES l.learned.kept.items;
  below : All (λ it. it.number ≤ l.done) l.learned.kept.items;
  count : l.done ≤ MOST_LONG_RECORDS;
  told : (bytes : List ℕ) → l.fn.pass ≡ Some (records_of bytes) → IsLong (long_of bytes l.sheet) → LearnedSoFar (long_of bytes l.sheet) l.fn.tables l.done l.pass l.learned l.basis;
}

abbrev pub decreases-loop-rows : goal.decreases-loop-rows
decreases-loop-rows g l = MOST_LONG_RECORDS - l.done
