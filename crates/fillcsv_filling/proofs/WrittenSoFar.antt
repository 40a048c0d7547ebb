-- What was written of a long sheet so far.
use Rattle.std.proofs.Common.{◌≡◌, ◌∙◌, ℕ, ◌+◌, ◌≤◌, List, [], ◌++◌, Bool, false, length, take, drop, Option, Some, Result, Ok, Err, arith, ap, refl, subst, sym}
use Rattle.std.specs.Prelude.{IfSome}
use Rattle.std.specs.Io.KnownBytes.{Appends}
use Rattle.std.proofs.lemmas.List.{length-map}
use Rattle.fill_text.specs.Data.{TableData}
use Rattle.fill_output.specs.declared.halt.Halt.{Halt}
use Rattle.fill_output.specs.declared.halt.Halt.TheVariants as halt
use Rattle.fillcsv_rows.specs.Filled.{TellsUnsure, WritesRows}
use Rattle.fillcsv_rows.proofs.Written.{head_rows, head_rows_part, rows_none, states_none}
use Rattle.fill_output.specs.Fields.{Fields}
use Rattle.fillcsv_blocks.specs.Accepted.{AreAccepted}
use Rattle.fillcsv_blocks.specs.Blocks.{BlockData, StandsFor}
use Rattle.fillcsv_blocks.specs.Merged.{numbers_of}
use Rattle.fillcsv_blocks.specs.declared.numbered.Numbered.{Numbered}
use Rattle.fillcsv_filling.specs.Long.{AreRows, IsLong, LongData, ground_of, rows_of}
use Rattle.fillcsv_filling.specs.Reading.{AreOf, most_rows, numbered}
use Rattle.fillcsv_filling.specs.Rows.{IsWritten, Stands, WritesBlock, WritesSheet}
use Rattle.fillcsv_filling.specs.Taught.{IsTaught, tables_of}
use Rattle.fillcsv_filling.specs.declared.learning.Learned.{Learned}
use Rattle.fillcsv_filling.specs.declared.sheet.Basis.{Basis}
use Rattle.fillcsv_filling.specs.declared.sheet.Basis.TheVariants as basis
use Rattle.fillcsv_filling.specs.declared.writing.Written.{Written}
use Rattle.fillcsv_filling.proofs.Blockwise.{first_so_far, kept_next, next_ends, next_left, next_rows, next_within, numbers_so_far, shown_rows}
use Rattle.fillcsv_filling.proofs.Filling.{part_then, rows_then, tells_then}
use Rattle.fillcsv_filling.proofs.Sheets.{rows_there}
use Rattle.fillcsv_filling.proofs.Standing.{in_step, stands_with}

-- the records of the first rows were written, and a pass has the others left
pub record WrittenSoFar (s : LongData) (learned : Learned) (b : Basis) (done : ℕ) (pass : Option (List Fields)) (old new : Option (List ℕ)) (all : Written) (now : Basis) : Type 0 where
  pub left : pass ≡ Some (drop done (rows_of s))
  pub within : done ≤ length (rows_of s)
  pub states : TellsUnsure s.typed (ground_of s (tables_of b)) learned.examples done false all.summary.unsure
  pub shown : AreOf all.shown.items (numbered 1 (take done (rows_of s)))
  pub taught : IsTaught s learned now
  pub tables : tables_of now ≡ tables_of b
  pub written : WritesRows s.form s.typed (ground_of s (tables_of b)) learned.examples (rows_of s) [] done old new

pub written_none : (s : LongData) (learned : Learned) (b : Basis) (pass : Option (List Fields)) (old : Option (List ℕ)) (written : Written) → pass ≡ Some (rows_of s) → IsTaught s learned b → written.summary.unsure ≡ false
    → written.shown.items ≡ [] → WrittenSoFar s learned b 0 pass old old written b
written_none s learned b pass old written all taught sure none =
    let over = ground_of s (tables_of b) in
    record {
      left = all;
      within = omega arith;
      states = subst (λ (flag : Bool). TellsUnsure s.typed over learned.examples 0 false flag) (sym sure) (states_none s.typed over learned.examples false);
      shown = subst (λ (l : List Numbered). AreOf l (numbered 1 (take 0 (rows_of s)))) (sym none) tt;
      taught = taught;
      tables = refl;
      written = rows_none s.form s.typed over learned.examples (rows_of s) old;
    }

-- memory ran out before the next rows
pub written_short : (s : LongData) (learned : Learned) (b : Basis) (done : ℕ) (pass : Option (List Fields)) (old new : Option (List ℕ)) (written : Written) (now : Basis)
    → WrittenSoFar s learned b done pass old new written now → WritesSheet s learned b [] old new (Err halt.NoMemory)
written_short s learned b done pass old new written now here = (done, here.within, here.written)

-- the rows that a pass gives next
module _ (s : LongData) (learned : Learned) (b : Basis) (done : ℕ) (pass next : Option (List Fields)) (old mid : Option (List ℕ)) (written : Written) (now : Basis) (rows : List Numbered)
    (here : WrittenSoFar s learned b done pass old mid written now) (given : IfSome pass (λ l. rows ≡ numbered (done + 1) (take most_rows l)))
    (left : IfSome pass (λ l. next ≡ Some (drop most_rows l))) where
  are : rows ≡ numbered (done + 1) (take most_rows (drop done (rows_of s)))
  are = subst (λ (o : Option (List Fields)). IfSome o (λ l. rows ≡ numbered (done + 1) (take most_rows l))) here.left given

  left_then : next ≡ Some (drop most_rows (drop done (rows_of s)))
  left_then = subst (λ (o : Option (List Fields)). IfSome o (λ l. next ≡ Some (drop most_rows l))) here.left left

  bound : done + length rows ≤ length (rows_of s)
  bound = next_within s done (drop done (rows_of s)) (drop most_rows (drop done (rows_of s))) rows refl here.within are refl

  pub those_rows : AreRows s rows
  those_rows = next_rows s done (drop done (rows_of s)) (drop most_rows (drop done (rows_of s))) rows refl here.within are refl

  -- where there are none, all rows were written
  pub written_all : length rows ≡ 0 → length written.shown.items ≤ 1000 → IsWritten s learned b [] old mid written now
  written_all none few =
      let ends = next_ends s done (drop done (rows_of s)) (drop most_rows (drop done (rows_of s))) rows refl here.within are refl none in
      let over = ground_of s (tables_of b) in
      record {
        states = subst (λ (n : ℕ). TellsUnsure s.typed over learned.examples n false written.summary.unsure) ends here.states;
        shown = shown_rows s done written.shown.items here.shown few;
        taught = here.taught;
        tables = here.tables;
        whole = subst (λ (n : ℕ). WritesRows s.form s.typed over learned.examples (rows_of s) [] n old mid) ends here.written;
      }

  -- a block of them
  module _ (block : BlockData) (over_now : StandsFor (ground_of s (tables_of now)) block learned.examples) where
    over : StandsFor (ground_of s (tables_of b)) block learned.examples
    over = subst (λ (t : List TableData). StandsFor (ground_of s t) block learned.examples) here.tables over_now

    pub stands_over : IsLong s → Stands s block rows
    stands_over long = record {
      long = long;
      stands = (in_step s (tables_of b) block learned.examples over learned.kept.items here.taught.kept).stands;
      rows = rows_there s rows those_rows.rows;
    }

    pub written_next : (more : Written) (new : Option (List ℕ)) → AreOf more.shown.items (written.shown.items ++ rows)
        → WritesBlock s block (numbers_of rows) written.summary.unsure more.summary.unsure mid new (Ok tt) → WrittenSoFar s learned b (done + length rows) next old new more (basis.Block block)
    written_next more new chosen wrote =
        let numbers = numbers_so_far s done (drop done (rows_of s)) (drop most_rows (drop done (rows_of s))) rows refl here.within are refl in
        record {
          left = left_then ∙ ap Some (next_left s done (drop done (rows_of s)) (drop most_rows (drop done (rows_of s))) rows refl here.within are refl);
          within = bound;
          states = tells_then s (tables_of b) block learned.examples over done (done + length rows) (numbers_of rows) numbers false written.summary.unsure more.summary.unsure here.states wrote.0;
          shown = kept_next s done (drop done (rows_of s)) (drop most_rows (drop done (rows_of s))) rows refl here.within are refl written.shown.items more.shown.items here.shown chosen;
          taught = record {
            kept = here.taught.kept;
            accepted = subst (λ (t : List TableData). AreAccepted (ground_of s t) learned.examples) (here.tables ∙ sym over.part.same.tables) here.taught.accepted;
            stands = stands_with s (tables_of b) block learned.examples over;
          };
          tables = over.part.same.tables;
          written = rows_then s (tables_of b) block learned.examples over done (done + length rows) (numbers_of rows) numbers old mid new here.written wrote.1;
        }

    pub written_halts : (first after : Bool) (new : Option (List ℕ)) (why : Halt) → WritesBlock s block (numbers_of rows) first after mid new (Err why) → WritesSheet s learned b [] old new (Err why)
    written_halts first after new halt.Fault wrote =
        let few : wrote.0 ≤ length rows = omega (arith, wrote.1, length-map rows (λ (it : Numbered). it.number)) in
        let numbers = first_so_far s done (drop done (rows_of s)) (drop most_rows (drop done (rows_of s))) rows refl here.within are refl wrote.0 few in (
          done + wrote.0,
          omega (arith, bound, few),
          part_then s (tables_of b) block learned.examples over done (done + wrote.0) (take wrote.0 (numbers_of rows)) numbers old mid new here.written wrote.2,
        )
    written_halts first after new halt.NoMemory wrote =
        let few : wrote.0 ≤ length rows = omega (arith, wrote.1, length-map rows (λ (it : Numbered). it.number)) in
        let numbers = first_so_far s done (drop done (rows_of s)) (drop most_rows (drop done (rows_of s))) rows refl here.within are refl wrote.0 few in (
          done + wrote.0,
          omega (arith, bound, few),
          rows_then s (tables_of b) block learned.examples over done (done + wrote.0) (take wrote.0 (numbers_of rows)) numbers old mid new here.written wrote.2,
        )

-- the rows after the head
pub after_head : (s : LongData) (learned : Learned) (b : Basis) (head : List ℕ) (old mid new : Option (List ℕ)) → Appends old mid head → (result : Result (Written × Basis) Halt)
    → WritesSheet s learned b [] mid new result → WritesSheet s learned b head old new result
after_head s learned b head old mid new before (Ok made) wrote = record {
  states = wrote.states;
  shown = wrote.shown;
  taught = wrote.taught;
  tables = wrote.tables;
  whole = head_rows s.form s.typed (ground_of s (tables_of b)) learned.examples (rows_of s) old mid new head (length (rows_of s)) before wrote.whole;
}
after_head s learned b head old mid new before (Err halt.Fault) wrote =
    (wrote.0, wrote.1, head_rows_part s.form s.typed (ground_of s (tables_of b)) learned.examples (rows_of s) old mid new head wrote.0 before wrote.2)
after_head s learned b head old mid new before (Err halt.NoMemory) wrote =
    (wrote.0, wrote.1, head_rows s.form s.typed (ground_of s (tables_of b)) learned.examples (rows_of s) old mid new head wrote.0 before wrote.2)
