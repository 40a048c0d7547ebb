-- The rows of a table in the order of their cells in some columns.
use Rattle.std.specs.Prelude.{◌≡◌, ℕ, ◌<◌, List, [], map, slice_index_or, All, AllPairs, Contains, Option}
use Rattle.std.specs.Ordering.{nat_cmp}
use Rattle.std.specs.Option.{option_cmp}
use Rattle.std.specs.Cmp.Lexicographic.{slice_cmp}
use Rattle.std.specs.declared.cmp.Ordering.{Ordering}
use Rattle.std.specs.declared.cmp.Ordering.TheVariants.{Less}
use Rattle.fill_text.specs.Data.{nth}

-- the order of two cells by their characters, one that is not there before all others
abbrev pub cell_cmp : Option (List ℕ) → Option (List ℕ) → Ordering
cell_cmp left right = option_cmp (slice_cmp nat_cmp) left right

-- the order of cells, by the first that differs
abbrev pub cells_cmp : List (Option (List ℕ)) → List (Option (List ℕ)) → Ordering
cells_cmp left right = slice_cmp cell_cmp left right

-- the cells in these columns of the row at a place, from 0
abbrev pub cells_at : List ℕ → List (List (List ℕ)) → ℕ → List (Option (List ℕ))
cells_at columns rows place = map (nth (slice_index_or rows place [])) columns

-- places of rows, those before an end, in rising order of their cells in these columns, all of which differ
pub record IsOrder (columns : List ℕ) (rows : List (List (List ℕ))) (end : ℕ) (order : List ℕ) : Type 0 where
  pub within : All (λ place. place < end) order
  pub whole : (place : ℕ) → place < end → Contains order place
  pub rises : AllPairs (λ a b. cells_cmp (cells_at columns rows a) (cells_at columns rows b) ≡ Less) order
