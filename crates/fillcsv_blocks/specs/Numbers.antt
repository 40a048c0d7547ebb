-- Which rows of a long sheet the rows of a part are.
use Rattle.std.specs.Prelude.{◌≡◌, ℕ, zero, suc, ◌<◌, List, AllPairs, Some, get_or}
use Rattle.fill_text.specs.Data.{RowData, nth}

-- each number is above those before it
abbrev pub Rise : List ℕ → Type 0
Rise numbers = AllPairs (λ a b. a < b) numbers

-- which row of the long sheet a row of the part is, both from 1, and 0 where the part has no such row: with the rows 3, 5
-- and 9 of the long sheet, row 2 of the part is its row 5
abbrev pub number_at : List ℕ → ℕ → ℕ
number_at numbers zero = 0
number_at numbers (suc above) = get_or numbers above 0

-- the row of this number is this one, cells and given text alike
abbrev pub HasRow : List RowData → ℕ → RowData → Type 0
HasRow rows number row = nth rows number ≡ Some row
