use Rattle.std.proofs.Common.{◌≡◌, ◌≤◌, ℕ, List, ◌++◌, length}
use Rattle.fill_doubt.specs.Shapes.{ShapesStand}
use Rattle.fillcsv_blocks.specs.Merged.{numbers_of}
use Rattle.fillcsv_filling.specs.Long.{long_of}
use Rattle.fillcsv_filling.specs.Reading.{AreOf}
use Rattle.fillcsv_filling.specs.Rows.{Stands, TellsOf, WritesOf}
use Rattle.fillcsv_filling.proofs.writing.write_rows.Given as goal

-- the rows so far
abbrev pub invariant-loop-row : goal.invariant-loop-row
invariant-loop-row g l = record {
  whole : l.fn.rows.items ≡ l.yielded ++ l.row-iterator.rest.items;
  shown : AreOf l.written.shown.items (l.initial.written.shown.items ++ l.yielded);
  few : length l.written.shown.items ≤ 1000;
  later : g.O.Sink.faults l.initial.out ≤ g.O.Sink.faults l.out;
  shapes : ShapesStand l.block.session.spaces.arena l.shapes;
  states : (bytes : List ℕ) → Stands (long_of bytes l.sheet) l.block l.fn.rows.items
      → TellsOf (long_of bytes l.sheet) l.block (numbers_of l.yielded) l.initial.written.summary.unsure l.written.summary.unsure;
  written : (bytes : List ℕ) → Stands (long_of bytes l.sheet) l.block l.fn.rows.items
      → WritesOf (long_of bytes l.sheet) l.block (numbers_of l.yielded) (g.O.Sink.written l.initial.out) (g.O.Sink.written l.out);
}
