-- Rows of tables, and which of them agree in some columns.
use Rattle.std.specs.Prelude.{ℕ, ◌+◌, List, [], ◌∷◌, ◌++◌, length, map, position, Bool, true, false, Option, Some, None}
use Rattle.std.specs.Str.{bytes_eq}
use Rattle.std.specs.Cmp.Lexicographic.{pointwise}
use Rattle.fill_text.specs.Data.{nth}

-- whether both are the same text, or neither is one
abbrev pub same_cell : Option (List ℕ) → Option (List ℕ) → Bool
same_cell (Some a) (Some b) = bytes_eq a b
same_cell (Some a) None = false
same_cell None (Some b) = false
same_cell None None = true

-- whether two rows have the same cells in these columns
abbrev pub agree : List ℕ → List (List ℕ) → List (List ℕ) → Bool
agree columns row other = pointwise same_cell (map (nth row) columns) (map (nth other) columns)

-- whether these are the cells of a row in these columns
abbrev pub has_cells : List ℕ → List (List ℕ) → List (List ℕ) → Bool
has_cells columns texts row = pointwise same_cell (map (nth row) columns) (map Some texts)

-- a row's number after that of the earlier one at a place, where there is one, or else what is found later
abbrev pub or_later : ℕ → Option ℕ → Option (ℕ × ℕ) → Option (ℕ × ℕ)
or_later number (Some place) later = Some (place + 1, number)
or_later number None later = later

-- the first of these rows that agrees with a row before it, these and the earlier ones, after the first that it agrees with
abbrev pub clash_after : List ℕ → List (List (List ℕ)) → List (List (List ℕ)) → Option (ℕ × ℕ)
clash_after columns earlier [] = None
clash_after columns earlier (row ∷ later) =
    or_later (length earlier + 1) (position (λ other. agree columns other row) earlier) (clash_after columns (earlier ++ row ∷ []) later)

-- the number of the first row that agrees with an earlier one in these columns, after that of the first that it agrees with
abbrev pub first_clash : List ℕ → List (List (List ℕ)) → Option (ℕ × ℕ)
first_clash columns rows = clash_after columns [] rows
