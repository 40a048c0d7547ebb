-- Rows of a long sheet, read in their order.
use Rattle.std.specs.Prelude.{◌≡◌, ◌⊎◌, ℕ, ◌+◌, List, [], ◌∷◌, ⊤}
use Rattle.fill_output.specs.Fields.{Fields}
use Rattle.fillcsv_blocks.specs.declared.numbered.Numbered.{Numbered}

-- the most rows of a block
unfoldable pub most_rows : ℕ
most_rows = 16384

-- these records as rows, the first of which has this number
abbrev pub numbered : ℕ → List Fields → List Numbered
numbered first [] = []
numbered first (fields ∷ more) = record { number = first; fields = fields } ∷ numbered (first + 1) more

-- some of the later rows, in their order: of 3, 5 and 9 for instance 3 and 9
abbrev pub AreOf : List Numbered → List Numbered → Type 0
AreOf [] rows = ⊤
AreOf (x ∷ xs) [] = ⊥
AreOf (x ∷ xs) (row ∷ more) = ((x ≡ row) × AreOf xs more) ⊎ AreOf (x ∷ xs) more

-- the numbers of these rows go on from the first one
abbrev pub AreFrom : ℕ → List Numbered → Type 0
AreFrom first [] = ⊤
AreFrom first (x ∷ xs) = (x.number ≡ first) × AreFrom (first + 1) xs
