-- Which branch a row takes.
use Rattle.std.specs.Prelude.{◌≡◌, ℕ, List, take, All, slice_get, Option, Some, IfSome}
use Rattle.fill_text.specs.Data.{SheetData}
use Rattle.fill_tree.specs.Guard.{ReadsInputs}
use Rattle.fill_tree.specs.Value.{IsValue, ProgramIs}
use Rattle.fill_tree.specs.declared.user.Example.{Example}
use Rattle.fill_space.specs.declared.ground.Ground.{Ground}
use Rattle.fill_session.specs.Answers.{IsBranchAt, TakesRow}
use Rattle.fill_session.specs.Branches.{AreBranches, BranchData}
use Rattle.fill_session.specs.declared.branch.Branch.{Branch}

-- the row takes the branch of this number, from 1, whose program answers this there
pub record IsTaken (g : Ground) (examples : List Example) (row n : ℕ) (text : Option (List ℕ)) : Type 0 where
  pub branches : List BranchData
  pub branch : BranchData
  pub are : AreBranches g examples branches
  pub place : IsBranchAt g.sheet row branches n branch
  pub value : IsValue (ProgramIs g.sheet g.tables row branch.program) text

-- ---- among the branches that are shown

-- the guards read cells of input columns alone
abbrev pub ReadInputs : SheetData → List Branch → Type 0
ReadInputs sheet shown = All (λ x. IfSome x.guard (ReadsInputs sheet)) shown

-- none of the branches takes the row
abbrev pub NoneTakes : SheetData → ℕ → List Branch → Type 0
NoneTakes sheet row shown = All (λ x. ¬ (TakesRow sheet row x.guard)) shown

-- the branch at the place is the first one that takes the row
pub record IsFirstTaker (sheet : SheetData) (row : ℕ) (shown : List Branch) (k : ℕ) : Type 0 where
  pub branch : Branch
  pub here : slice_get shown k ≡ Some branch
  pub takes : TakesRow sheet row branch.guard
  pub earlier : NoneTakes sheet row (take k shown)
