use Rattle.std.proofs.Common.{◌≡◌, ◌≤◌, ℕ, List, ◌++◌, length}
use Rattle.fill_tree.specs.declared.user.TheConstants.{MOST_EXAMPLES}
use Rattle.fillcsv_blocks.specs.Merged.{RowsRise}
use Rattle.fillcsv_filling.specs.Long.{long_of}
use Rattle.fillcsv_filling.specs.Reading.{AreOf}
use Rattle.fillcsv_filling.specs.Taught.{IsInStep, LearnsEach}
use Rattle.fillcsv_filling.proofs.learning.learn_each.Given as goal

-- the rows so far
abbrev pub invariant-loop-row : goal.invariant-loop-row
invariant-loop-row g l = record {
  whole : l.fn.rows.items ≡ l.yielded ++ l.row-iterator.rest.items;
  numbers : l.block.numbers ≡ l.initial.block.numbers;
  few : length l.learned.kept.items ≤ MOST_EXAMPLES;
  kept : AreOf l.learned.kept.items (l.initial.learned.kept.items ++ l.yielded);
  learns : (bytes : List ℕ) → IsInStep (long_of bytes l.sheet) l.initial.learned.kept.items l.initial.block → RowsRise (l.initial.learned.kept.items ++ l.fn.rows.items)
      → LearnsEach (long_of bytes l.sheet) l.initial.block l.initial.learned l.learned l.yielded l.block;
}
