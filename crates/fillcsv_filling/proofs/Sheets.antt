-- Rows of a long sheet.
use Rattle.std.proofs.Common.{◌≡◌, ◌∙◌, ℕ, ◌+◌, ◌≤◌, List, length, take, drop, All, sym, ap, subst, arith}
use Rattle.std.proofs.lemmas.List.{length-take}
use Rattle.std.proofs.lemmas.List.Elements.{All-weaker}
use Rattle.fill_text.specs.Data.{TableData}
use Rattle.fill_sheet.specs.Columns.{rising}
use Rattle.fill_sheet.specs.Sheet.{row_of}
use Rattle.fillcsv_blocks.specs.Merged.{IsRowOf, RowsRise}
use Rattle.fillcsv_blocks.specs.declared.numbered.Numbered.{Numbered}
use Rattle.fillcsv_filling.specs.Long.{AreRows, ground_of, rows_of}
use Rattle.fillcsv_filling.specs.Reading.{AreOf, most_rows, numbered}
use Rattle.fillcsv_filling.specs.Rows.{IsRow}
use Rattle.fillcsv_filling.specs.Long.{LongData}
use Rattle.fillcsv_filling.proofs.Choosing.{of_all, of_rises}
use Rattle.fillcsv_filling.proofs.Numbering.{block_of, length_numbered, nth_map, rises_numbered, there}

module _ (s : LongData) (rows : List Numbered) (are : AreOf rows (numbered 1 (rows_of s))) where
  pub rows_rise : RowsRise rows
  rows_rise = of_rises rows (numbered 1 (rows_of s)) are (rises_numbered 1 (rows_of s))

  pub rows_there : All (IsRow s) rows
  rows_there = of_all (IsRow s) rows (numbered 1 (rows_of s)) are (there (rows_of s))

  pub rows_in_ground : (tables : List TableData) → All (IsRowOf (ground_of s tables).sheet s.output) rows
  rows_in_ground tables =
      All-weaker (IsRow s) (IsRowOf (ground_of s tables).sheet s.output) (λ it is. nth_map (row_of (rising s.inputs) s.output) (rows_of s) it.number it.fields is) rows rows_there

-- the rows of a block
pub block_rows : (s : LongData) (n : ℕ) (rows : List Numbered) → n ≤ length (rows_of s) → rows ≡ numbered (n + 1) (take most_rows (drop n (rows_of s))) → AreRows s rows
block_rows s n rows within is = record {
  rows = subst (λ (l : List Numbered). AreOf l (numbered 1 (rows_of s))) (sym is) (block_of n most_rows (rows_of s) within);
  few =
      let size : length rows ≡ length (take most_rows (drop n (rows_of s))) = ap length is ∙ length_numbered (n + 1) (take most_rows (drop n (rows_of s))) in
      omega (arith, size, length-take most_rows (drop n (rows_of s)));
}
