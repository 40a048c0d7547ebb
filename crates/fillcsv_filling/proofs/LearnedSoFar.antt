-- What the rows of a long sheet so far taught.
use Rattle.std.proofs.Common.{◌≡◌, ◌∙◌, ℕ, ◌+◌, ◌≤◌, List, [], ◌++◌, length, take, drop, Option, Some, arith, ap, refl, subst, sym}
use Rattle.std.specs.Prelude.{IfSome}
use Rattle.std.proofs.lemmas.List.{length-map}
use Rattle.fill_text.specs.Data.{TableData}
use Rattle.fill_sheet.specs.Columns.{rising}
use Rattle.fill_sheet.specs.Sheet.{row_of}
use Rattle.fillcsv_rows.specs.Learned.{Learns, LearnsFirst}
use Rattle.fillcsv_rows.specs.declared.learning.Refused.{Refused}
use Rattle.fill_output.specs.Fields.{Fields}
use Rattle.fillcsv_blocks.specs.Accepted.{AreAccepted}
use Rattle.fillcsv_blocks.specs.Merged.{numbers_of}
use Rattle.fillcsv_blocks.specs.declared.numbered.Numbered.{Numbered}
use Rattle.fillcsv_blocks.proofs.Accepting.{are_accepted}
use Rattle.fillcsv_filling.specs.Long.{AreRows, LongData, ground_of, rows_of}
use Rattle.fillcsv_filling.specs.Reading.{AreOf, most_rows, numbered}
use Rattle.fillcsv_filling.specs.Taught.{IsTaught, LearnsRows, Teaches, tables_of}
use Rattle.fillcsv_filling.specs.declared.learning.Learned.{Learned}
use Rattle.fillcsv_filling.specs.declared.sheet.Basis.{Basis}
use Rattle.fillcsv_filling.specs.declared.sheet.Basis.TheVariants as basis
use Rattle.fillcsv_filling.proofs.Blockwise.{kept_in, kept_next, learns_then, next_ends, next_left, next_within, none_accepted, none_kept}

-- the first rows were learned from over these tables, and a pass has the others left
pub record LearnedSoFar (s : LongData) (over : List TableData) (done : ℕ) (pass : Option (List Fields)) (all : Learned) (b : Basis) : Type 0 where
  pub left : pass ≡ Some (drop done (rows_of s))
  pub within : done ≤ length (rows_of s)
  pub learned : LearnsFirst s.typed (ground_of s over) done all.examples all.refused
  pub kept : AreOf all.kept.items (numbered 1 (take done (rows_of s)))
  pub taught : IsTaught s all b
  pub tables : tables_of b ≡ over

pub learned_none : (s : LongData) (tables : List TableData) (pass : Option (List Fields)) (learned : Learned) → pass ≡ Some (rows_of s) → learned.examples ≡ [] → learned.refused ≡ [] → learned.kept.items ≡ []
    → LearnedSoFar s (tables) 0 pass learned (basis.Tables tables)
learned_none s tables pass learned all no_examples none_refused nothing = record {
  left = all;
  within = omega arith;
  learned = (no_examples, none_refused);
  kept = subst (λ (l : List Numbered). AreOf l (numbered 1 (take 0 (rows_of s)))) (sym nothing) tt;
  taught = record {
    kept = none_kept s learned.kept.items learned.examples nothing no_examples;
    accepted = none_accepted (ground_of s tables) learned.examples no_examples;
    stands = tt;
  };
  tables = refl;
}

-- the rows that a pass gives next
module _ (s : LongData) (tables : List TableData) (done : ℕ) (pass next : Option (List Fields)) (rows : List Numbered) (old : Learned) (b : Basis) (here : LearnedSoFar s tables done pass old b)
    (given : IfSome pass (λ l. rows ≡ numbered (done + 1) (take most_rows l))) (left : IfSome pass (λ l. next ≡ Some (drop most_rows l))) where
  are : rows ≡ numbered (done + 1) (take most_rows (drop done (rows_of s)))
  are = subst (λ (o : Option (List Fields)). IfSome o (λ l. rows ≡ numbered (done + 1) (take most_rows l))) here.left given

  left_then : next ≡ Some (drop most_rows (drop done (rows_of s)))
  left_then = subst (λ (o : Option (List Fields)). IfSome o (λ l. next ≡ Some (drop most_rows l))) here.left left

  pub those_in : AreOf (old.kept.items ++ rows) (numbered 1 (rows_of s))
  those_in = kept_in s done (drop done (rows_of s)) (drop most_rows (drop done (rows_of s))) rows refl here.within are refl old.kept.items here.kept

  pub learned_next : (new : Learned) (after : Basis) → AreOf new.kept.items (old.kept.items ++ rows) → LearnsRows s old b rows new after → LearnedSoFar s tables (done + length rows) next new after
  learned_next new after chosen learns =
      let first : LearnsFirst s.typed (ground_of s tables) (done + length rows) new.examples new.refused =
      learns_then s done (drop done (rows_of s)) (drop most_rows (drop done (rows_of s))) rows refl here.within are refl s.typed (ground_of s tables) old.examples new.examples old.refused new.refused here.learned
      (subst (λ (t : List TableData). (told : List Refused) × Learns s.typed (ground_of s t) old.examples (numbers_of rows) new.examples told × (new.refused ≡ old.refused ++ told)) here.tables learns.learns)
      in
      let same = learns.tables ∙ here.tables in
      record {
        left = left_then ∙ ap Some (next_left s done (drop done (rows_of s)) (drop most_rows (drop done (rows_of s))) rows refl here.within are refl);
        within = next_within s done (drop done (rows_of s)) (drop most_rows (drop done (rows_of s))) rows refl here.within are refl;
        learned = first;
        kept = kept_next s done (drop done (rows_of s)) (drop most_rows (drop done (rows_of s))) rows refl here.within are refl old.kept.items new.kept.items here.kept chosen;
        taught = record {
          kept = learns.kept;
          accepted = subst (λ (t : List TableData). AreAccepted (ground_of s t) new.examples) (sym same) (are_accepted s.typed (ground_of s tables) (done + length rows) new.examples new.refused first);
          stands = learns.stands;
        };
        tables = same;
      }

  -- where there are none, all rows were learned from
  pub learned_all : length rows ≡ 0 → Teaches s tables old b
  learned_all none =
      let ends = next_ends s done (drop done (rows_of s)) (drop most_rows (drop done (rows_of s))) rows refl here.within are refl none in
      let count = ends ∙ sym (length-map (rows_of s) (row_of (rising s.inputs) s.output)) in
      record {
        learned = subst (λ (n : ℕ). LearnsFirst s.typed (ground_of s tables) n old.examples old.refused) count here.learned;
        taught = here.taught;
        tables = here.tables;
      }
