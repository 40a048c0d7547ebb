-- The columns that a sheet is read from.
use Rattle.std.specs.Prelude.{◌≢◌, ℕ, ◌<◌, ◌≤◌, List, [], ◌∷◌, ◌++◌, length, All, AllPairs, Contains, Option, Some, None, ⊤, if◌then◌else◌, nat_le, option_to_list}
use Rattle.fill_sheet.specs.declared.columns.TheConstants.{LAST_COLUMN, MOST_INPUTS}

-- a number that a column can have
pub record IsColumn (column : ℕ) : Type 0 where
  pub first : 1 ≤ column
  pub last : column ≤ LAST_COLUMN

-- the input columns of a sheet, in any order
pub record AreInputs (inputs : List ℕ) : Type 0 where
  pub some : 0 < length inputs
  pub few : length inputs ≤ MOST_INPUTS
  pub columns : All IsColumn inputs
  pub distinct : AllPairs (λ a b. a ≢ b) inputs

-- the output column beside these input columns, where one is set
abbrev pub IsOutput : List ℕ → Option ℕ → Type 0
IsOutput inputs None = ⊤
IsOutput inputs (Some column) = IsColumn column × ¬ (Contains inputs column)

-- a rising list of numbers with one more number at its place
abbrev pub placed : ℕ → List ℕ → List ℕ
placed n [] = n ∷ []
placed n (m ∷ more) = if nat_le n m then n ∷ m ∷ more else m ∷ placed n more

-- these numbers in rising order
abbrev pub rising : List ℕ → List ℕ
rising [] = []
rising (n ∷ more) = placed n (rising more)

-- the columns that are read, in rising order: the inputs and the output
abbrev pub used : List ℕ → Option ℕ → List ℕ
used inputs output = rising (inputs ++ option_to_list output)
