-- A block that was opened over rows of two lists.
use Rattle.std.proofs.Common.{◌≡◌, ◌∙◌, ℕ, List, [], All, Option, ap, subst, sym}
use Rattle.std.specs.List.{AllZip}
use Rattle.fill_tree.specs.declared.user.Example.{Example}
use Rattle.fill_space.specs.declared.ground.Ground.{Ground}
use Rattle.fill_local.specs.Local.{renumbered}
use Rattle.fillcsv_blocks.specs.Blocks.{BlockData, IsPart, StandsFor}
use Rattle.fillcsv_blocks.specs.Merged.{IsRowOf, RowsRise, merged, no_rows}
use Rattle.fillcsv_blocks.specs.Numbers.{HasRow, Rise, number_at}
use Rattle.fillcsv_blocks.specs.declared.numbered.Numbered.{Numbered}
use Rattle.fillcsv_blocks.proofs.Merging.{made, merged_all, numbers_rise, rows_match}

module _ (output : Option ℕ) (inputs : List ℕ) (xs ys : List Numbered) (first : RowsRise xs) (second : RowsRise ys) where
  pub opened : (block : BlockData) → block.session.spaces.ground.sheet ≡ (made output inputs xs ys).sheet → block.numbers ≡ (made output inputs xs ys).numbers → block.session.examples ≡ []
      → (g : Ground) → g.settings ≡ block.session.spaces.ground.settings → g.tables ≡ block.session.spaces.ground.tables → g.sheet.inputs ≡ inputs
      → All (IsRowOf g.sheet output) xs → All (IsRowOf g.sheet output) ys → StandsFor g block []
  opened block sheet numbers none g settings tables same all others =
      let match = rows_match output g.sheet (no_rows inputs) (merged xs ys) (sym same) tt (merged_all (IsRowOf g.sheet output) xs ys all others) in
      let part : IsPart g block.session.spaces.ground block.numbers = record {
        same = record { settings = sym settings; tables = sym tables; inputs = (λ i. (sheet i).inputs) ∙ match.0 };
        rise = subst Rise (sym numbers) (numbers_rise output inputs xs ys first second);
        rows = coe 1 0 (i. AllZip (HasRow g.sheet.rows) (numbers i) (sheet i).rows) match.1;
      } in
      record { part = part; same = ap (λ (l : List Example). renumbered (number_at block.numbers) l) (sym none) }
