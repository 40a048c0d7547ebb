-- Sheets and tables as plain data: what the code's own types of these names are seen as.
use Rattle.std.specs.Prelude.{ℕ, zero, suc, ◌==◌, List, Option, None, slice_get, position, option_and_then, option_map}

-- a row of a sheet: its cells in the order of the sheet's input columns, and the text that its output cell gives,
-- none where no output column is set or the cell is empty
pub record RowData : Type 0 where
  pub cells : List (List ℕ)
  pub given : Option (List ℕ)

-- a sheet: its input columns, rising, and its rows
pub record SheetData : Type 0 where
  pub inputs : List ℕ
  pub rows : List RowData

-- a table: its name, how many columns it has, its rows, each of as many cells, and its keys, each a list of columns
pub record TableData : Type 0 where
  pub name : List ℕ
  pub width : ℕ
  pub rows : List (List (List ℕ))
  pub keys : List (List ℕ)

-- the item of a number that counts from 1
abbrev pub nth : {A : Type 0} → List A → ℕ → Option A
nth xs zero = None
nth xs (suc i) = slice_get xs i

-- the cell of a row in an input column; none where the sheet has no such row or the column is no input
abbrev pub cell_at : SheetData → ℕ → ℕ → Option (List ℕ)
cell_at sheet row column =
    option_and_then (λ at. option_and_then (λ r. slice_get r.cells at) (nth sheet.rows row)) (position (λ c. c == column) sheet.inputs)

-- the cell of a table's row; none where a number is out of range
abbrev pub table_cell_at : List TableData → ℕ → ℕ → ℕ → Option (List ℕ)
table_cell_at tables table row column =
    option_and_then (λ t. option_and_then (λ cells. nth cells column) (nth t.rows row)) (nth tables table)

-- the cells of a table's row; none where a number is out of range
abbrev pub table_row_at : List TableData → ℕ → ℕ → Option (List (List ℕ))
table_row_at tables table row = option_and_then (λ t. nth t.rows row) (nth tables table)

-- how many columns a table has; none where there is no such table
abbrev pub width_at : List TableData → ℕ → Option ℕ
width_at tables table = option_map (λ t. t.width) (nth tables table)

-- the columns of a table's key; none where a number is out of range
abbrev pub key_at : List TableData → ℕ → ℕ → Option (List ℕ)
key_at tables table key = option_and_then (λ t. nth t.keys key) (nth tables table)
