-- Rows of a long sheet by their numbers.
use Rattle.std.specs.Prelude.{ℕ, ◌<◌, ◌==◌, List, [], ◌∷◌, ◌++◌, AllPairs, Option, map, option_to_list, if◌then◌else◌, nat_lt}
use Rattle.fill_text.specs.Data.{SheetData}
use Rattle.fill_records.specs.Texts.{IsText}
use Rattle.fill_sheet.specs.Sheet.{row_of}
use Rattle.fillcsv_blocks.specs.Numbers.{HasRow}
use Rattle.fillcsv_blocks.specs.declared.numbered.Numbered.{Numbered}

-- the row's number is above those of the rows before it
abbrev pub RowsRise : List Numbered → Type 0
RowsRise rows = AllPairs (λ a b. a.number < b.number) rows

abbrev pub numbers_of : List Numbered → List ℕ
numbers_of rows = map (λ it. it.number) rows

-- the row of this record has this number in the sheet
abbrev pub IsRowOf : SheetData → Option ℕ → Numbered → Type 0
IsRowOf sheet output it = HasRow sheet.rows it.number (row_of sheet.inputs output it.fields)

-- the record's fields in the columns that are read are UTF-8
abbrev pub IsReadable : List ℕ → Option ℕ → Numbered → Type 0
IsReadable inputs output it = IsText (inputs ++ option_to_list output) it.fields

-- the rows below this one, then it, and then what comes of those above it: of two rows of one number this one stays
abbrev pub placed_in : Numbered → (List Numbered → List Numbered) → List Numbered → List Numbered
placed_in x above [] = x ∷ above []
placed_in x above (y ∷ ys) =
    if nat_lt y.number x.number then y ∷ placed_in x above ys else if y.number == x.number then x ∷ above ys else x ∷ above (y ∷ ys)

-- rows of both lists in rising order, one of each number: of 3, 9 and of 5, 9, 10 the rows 3, 5, 9 and 10
abbrev pub merged : List Numbered → List Numbered → List Numbered
merged [] ys = ys
merged (x ∷ xs) ys = placed_in x (merged xs) ys

-- a sheet of some rows of a long one, and their numbers there
pub record PartData : Type 0 where
  pub sheet : SheetData
  pub numbers : List ℕ

-- a sheet of these input columns without rows
abbrev pub no_rows : List ℕ → PartData
no_rows inputs = record { sheet = record { inputs = inputs; rows = [] }; numbers = [] }

-- one row more, and these rows more
abbrev pub with_row : Option ℕ → PartData → Numbered → PartData
with_row output part it = record {
  sheet = record part.sheet { rows = part.sheet.rows ++ row_of part.sheet.inputs output it.fields ∷ [] };
  numbers = part.numbers ++ it.number ∷ [];
}

abbrev pub with_rows : Option ℕ → PartData → List Numbered → PartData
with_rows output part [] = part
with_rows output part (x ∷ xs) = with_rows output (with_row output part x) xs
