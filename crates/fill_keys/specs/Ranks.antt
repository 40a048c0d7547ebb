-- The ranks of a table's cells.
use Rattle.std.specs.Prelude.{◌≡◌, ◌↔◌, ℕ, suc, ◌+◌, ◌*◌, ◌<◌, List, [], ◌∷◌, length, Some, option_and_then, slice_get, unwrap_or}
use Rattle.fill_text.specs.Data.{TableData, nth, table_cell_at}
use Rattle.fill_tables.specs.Tables.{column_count, row_count}
use Rattle.fill_keys.specs.declared.ranks.RankedTable.{RankedTable}

-- numbers for the cells of a column, row by row: equal ones for equal cells alone
pub record AreRanks (tables : List TableData) (table column : ℕ) (ranks : List ℕ) : Type 0 where
  pub full : length ranks ≡ row_count tables table
  pub small : (i m : ℕ) → slice_get ranks i ≡ Some m → m < 65536
  pub same : (i j m n : ℕ) → slice_get ranks i ≡ Some m → slice_get ranks j ≡ Some n →
      (m ≡ n) ↔ (table_cell_at tables table (suc i) column ≡ table_cell_at tables table (suc j) column)

-- the ranks of all columns of a table
pub record IsRanked (tables : List TableData) (ranked : RankedTable) : Type 0 where
  pub rows : ranked.rows ≡ row_count tables ranked.table
  pub wide : length ranked.columns.items ≡ column_count tables ranked.table
  pub each : (c : ℕ) (ranks : List ℕ) → slice_get ranked.columns.items c ≡ Some ranks → AreRanks tables ranked.table (suc c) ranks

-- the rank of a row's cell in a column; rows count from 0, and columns from 1
abbrev pub rank_in : List (List ℕ) → ℕ → ℕ → ℕ
rank_in columns row column = unwrap_or (option_and_then (λ ranks. slice_get ranks row) (nth columns column)) 0

-- one number of ranks, which follow on those of another number
abbrev pub number_after : ℕ → List ℕ → ℕ
number_after n [] = n
number_after n (rank ∷ ranks) = number_after (n * 65536 + rank) ranks

abbrev pub number_of : List ℕ → ℕ
number_of ranks = number_after 0 ranks
