-- What blocks stand for.
use Rattle.std.proofs.Common.{◌≡◌, ◌∙◌, ◌≤◌, ◌++◌, ℕ, List, length, true, Option, None, Some, Contains, ap, arith, subst, sym}
use Rattle.std.specs.Prelude.{MatchOption}
use Rattle.std.specs.Option.{is_some}
use Rattle.fill_text.specs.Data.{TableData}
use Rattle.fill_tree.specs.declared.user.Example.{Example}
use Rattle.fill_session.specs.Edits.{rows_of as example_rows}
use Rattle.fillcsv_rows.specs.Learned.{Learns}
use Rattle.fillcsv_rows.specs.declared.learning.Refused.{Refused}
use Rattle.fillcsv_blocks.specs.Blocks.{BlockData, HasNumber, StandsFor}
use Rattle.fillcsv_blocks.specs.declared.numbered.Numbered.{Numbered}
use Rattle.fillcsv_filling.specs.Long.{AreRows, ground_of, rows_of}
use Rattle.fillcsv_filling.specs.Reading.{AreOf, most_rows, numbered}
use Rattle.fillcsv_filling.specs.Taught.{IsInStep, IsKept, examples_of, ground_with}
use Rattle.fillcsv_filling.specs.Long.{LongData}
use Rattle.fillcsv_filling.proofs.Choosing.{of_after, of_same, of_those}
use Rattle.fillcsv_filling.proofs.Counting.{most_rows_is}

-- a row that is found is there
pub has_number : (block : BlockData) (number : ℕ) (found : Option ℕ) → MatchOption found (¬ (Contains block.numbers number)) (HasNumber block number) → is_some found ≡ true → Contains block.numbers number
has_number block number None has is = cc
has_number block number (Some row) has is = has.here

-- a block that stands for examples over the sheet with these tables has these tables, and the same examples of its own
module _ (s : LongData) (tables : List TableData) (block : BlockData) (examples : List Example) (stands : StandsFor (ground_of s tables) block examples) where
  pub tables_are : block.session.spaces.ground.tables ≡ tables
  tables_are = stands.part.same.tables

  pub stands_with : StandsFor (ground_with s block) block examples
  stands_with = subst (λ (t : List TableData). StandsFor (ground_of s t) block examples) (sym tables_are) stands

  pub in_step : (kept : List Numbered) → IsKept s kept examples → IsInStep s kept block
  in_step kept is = record {
    stands = subst (λ (l : List Example). StandsFor (ground_with s block) block l) stands.same stands_with;
    numbers = is.numbers ∙ ap (λ (l : List Example). example_rows l) stands.same;
    few = is.few;
  }

  -- what was learned by it was learned over the sheet with these tables
  pub learns_over : (rows : List ℕ) (new : BlockData) (made : List Example) (here : List Refused) → made ≡ examples_of new → Learns s.typed (ground_with s block) (examples_of block) rows (examples_of new) here
      → Learns s.typed (ground_of s tables) examples rows made here
  learns_over rows new made here same learns =
      subst (λ (l : List Example). Learns s.typed (ground_of s tables) examples rows l here) (sym same)
      (subst (λ (l : List Example). Learns s.typed (ground_of s tables) l rows (examples_of new) here) (sym stands.same)
      (subst (λ (t : List TableData). Learns s.typed (ground_of s t) (examples_of block) rows (examples_of new) here) tables_are learns))

-- what is kept after rows were learned
pub kept_after : (s : LongData) (kept : List Numbered) (new : BlockData) (made : List Example) → IsInStep s kept new → made ≡ examples_of new → AreOf kept (numbered 1 (rows_of s)) → IsKept s kept made
kept_after s kept new made step same are = record {
  rows = record { rows = are; few = omega (arith, most_rows_is, step.few) };
  numbers = step.numbers ∙ ap (λ (l : List Example). example_rows l) (sym same);
  few = step.few;
}

pub made_stands : (s : LongData) (kept : List Numbered) (new : BlockData) (made : List Example) → IsInStep s kept new → made ≡ examples_of new → StandsFor (ground_with s new) new made
made_stands s kept new made step same = subst (λ (l : List Example). StandsFor (ground_with s new) new l) (sym same) step.stands

-- rows that follow those which are kept are rows of the sheet
pub rows_among : (s : LongData) (kept rows : List Numbered) → AreOf (kept ++ rows) (numbered 1 (rows_of s)) → length rows ≤ most_rows → AreRows s rows
rows_among s kept rows are few = record { rows = of_those rows (kept ++ rows) (numbered 1 (rows_of s)) (of_after rows kept rows (of_same rows)) are; few = few }
