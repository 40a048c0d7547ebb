-- Sheets that hold the same in some rows.
use Rattle.std.specs.Prelude.{◌≡◌, ℕ, ◌<◌, List, All, Contains, map, true}
use Rattle.fill_text.specs.Data.{SheetData, cell_at}
use Rattle.fill_tree.specs.declared.user.Example.{Example}
use Rattle.fill_space.specs.declared.ground.Ground.{Ground}
use Rattle.fill_session.specs.Branches.{BranchData}
use Rattle.fill_session.specs.Outcome.{inputs_length, is_row}
use Rattle.fill_session.specs.declared.error.EditError.{EditError}
use Rattle.fill_session.specs.declared.error.EditError.TheVariants as error

-- the row of the one sheet holds what that of the other does
abbrev pub HoldSame : SheetData → SheetData → ℕ → ℕ → Type 0
HoldSame s t r q = (column : ℕ) → cell_at s r column ≡ cell_at t q column

-- the same is learned over both, apart from the rows: with the same settings, tables and inputs
pub record IsSameButRows (g h : Ground) : Type 0 where
  pub settings : g.settings ≡ h.settings
  pub tables : g.tables ≡ h.tables
  pub inputs : g.sheet.inputs ≡ h.sheet.inputs

-- these rows hold the same in both
abbrev pub AreKept : Ground → Ground → List ℕ → Type 0
AreKept g h rows = All (λ r. HoldSame g.sheet h.sheet r r) rows

-- what these rows hold stands in the other sheet under other numbers, each under one of its own
pub record AreRenumbered (g h : Ground) (number : ℕ → ℕ) (rows : List ℕ) : Type 0 where
  pub same : IsSameButRows g h
  pub cells : All (λ r. HoldSame g.sheet h.sheet r (number r)) rows
  pub once : (r q : ℕ) → Contains rows r → Contains rows q → number r ≡ number q → r ≡ q

-- examples under other numbers
abbrev pub renumbered : (ℕ → ℕ) → List Example → List Example
renumbered number examples = map (λ e. record { row = number e.row; text = e.text }) examples

-- a branch of examples under other numbers
abbrev pub renumbered_branch : (ℕ → ℕ) → BranchData → BranchData
renumbered_branch number b = record { examples = renumbered number b.examples; guard = b.guard; program = b.program }

-- and in the same order, each as a row of the sheet, with as many characters to read
pub record AreInOrder (g h : Ground) (number : ℕ → ℕ) (rows : List ℕ) : Type 0 where
  pub renumbered : AreRenumbered g h number rows
  pub order : (r q : ℕ) → Contains rows r → Contains rows q → r < q → number r < number q
  pub here : All (λ r. is_row g.sheet r ≡ true) rows
  pub there : All (λ r. is_row h.sheet (number r) ≡ true) rows
  pub long : All (λ r. inputs_length g.sheet r ≡ inputs_length h.sheet (number r)) rows

-- a reason under other numbers
abbrev pub renumbered_reason : (ℕ → ℕ) → EditError → EditError
renumbered_reason number (error.NoSuchRow rows) = error.NoSuchRow rows
renumbered_reason number error.HasExample = error.HasExample
renumbered_reason number error.NoExample = error.NoExample
renumbered_reason number (error.TooLong part count) = error.TooLong part count
renumbered_reason number error.TooMany = error.TooMany
renumbered_reason number (error.NoProgram row) = error.NoProgram (number row)
renumbered_reason number (error.TooManyBranches row) = error.TooManyBranches (number row)
renumbered_reason number (error.NoGuard branch) = error.NoGuard branch
renumbered_reason number error.NoMemory = error.NoMemory
