-- Which rows of tables the lookups of the grammar pick on a row of the sheet.
use Rattle.std.specs.Prelude.{◌≡◌, ℕ, ◌≤◌, List, Contains}
use Rattle.std.specs.declared.cmp.Ordering.{Ordering}
use Rattle.std.specs.Ordering.{nat_cmp, ordering_then}
use Rattle.fill_text.specs.Data.{SheetData, TableData}
use Rattle.fill_tables.specs.Keys.{IsKeyedRow}
use Rattle.fill_tree.specs.Tree.{Atoms, select}
use Rattle.fill_tree.specs.Grammar.{IsSource, source_depth}
use Rattle.fill_tree.specs.Value.{ConditionsAre}
use Rattle.fill_tree.specs.declared.user.Settings.{Settings}
use Rattle.fill_reach.specs.declared.rows.ReachedRow.{ReachedRow}

-- on the row of the sheet the lookup picks the table's row of this number
abbrev pub Picks : SheetData → List TableData → ℕ → ℕ → ℕ → Atoms → ℕ → Type 0
Picks sheet tables row table key conditions found =
    (texts : List (List ℕ)) × ConditionsAre sheet tables row conditions texts × IsKeyedRow tables table key texts found

-- some lookup of the grammar, of this depth, picks the table's row by the key
abbrev pub IsReachedAt : Settings → SheetData → List TableData → ℕ → ℕ → ℕ → ℕ → ℕ → Type 0
IsReachedAt settings sheet tables row table key found depth = (column : ℕ) × (conditions : Atoms)
    × IsSource settings sheet tables (select column table key conditions) × (source_depth (select column table key conditions) ≡ depth)
    × (depth ≤ settings.depth) × Picks sheet tables row table key conditions found

-- some does, and the depth is the least of any that does
pub record IsReached (settings : Settings) (sheet : SheetData) (tables : List TableData) (row : ℕ) (r : ReachedRow) : Type 0 where
  pub reached : IsReachedAt settings sheet tables row r.table r.key r.row r.depth
  pub least : (depth : ℕ) → IsReachedAt settings sheet tables row r.table r.key r.row depth → r.depth ≤ depth

-- each row that some lookup of the grammar picks is listed, with no more than the lookup's depth
abbrev pub FindsEach : Settings → SheetData → List TableData → ℕ → List ReachedRow → Type 0
FindsEach settings sheet tables row rows = (table key found depth : ℕ) → IsReachedAt settings sheet tables row table key found depth →
    (r : ReachedRow) × Contains rows r × (r.table ≡ table) × (r.key ≡ key) × (r.row ≡ found) × (r.depth ≤ depth)

-- by the table, the key, the row and the depth
abbrev pub reached_cmp : ReachedRow → ReachedRow → Ordering
reached_cmp a b = ordering_then (nat_cmp a.table b.table) (ordering_then (nat_cmp a.key b.key)
    (ordering_then (nat_cmp a.row b.row) (nat_cmp a.depth b.depth)))
