-- What accepted examples answer on a row, and their conditional program.
use Rattle.std.specs.Prelude.{◌≡◌, ℕ, suc, List, [], ◌∷◌, ◌++◌, length, All, Option, None, Some, option_map}
use Rattle.fill_text.specs.Data.{SheetData}
use Rattle.fill_tree.specs.Guard.{GuardHolds}
use Rattle.fill_tree.specs.Switch.{CaseTree, SwitchTree}
use Rattle.fill_tree.specs.Tree.{Atoms}
use Rattle.fill_tree.specs.Value.{IsValue, ProgramIs}
use Rattle.fill_tree.specs.declared.guard.Guard.{Guard}
use Rattle.fill_tree.specs.declared.user.Example.{Example}
use Rattle.fill_space.specs.declared.ground.Ground.{Ground}
use Rattle.fill_space.specs.Doubt.{IsDoubtful}
use Rattle.fill_session.specs.Edits.{HasExample}
use Rattle.fill_session.specs.Branches.{AreBranches, BranchData}
use Rattle.fill_session.specs.declared.answer.Answer.{Answer}
use Rattle.fill_session.specs.declared.answer.State.{State}
use Rattle.fill_session.specs.declared.answer.State.TheVariants.{Given, Sure, Doubt}

-- the guard holds on the row; where there is none, each row is taken
abbrev pub TakesRow : SheetData → ℕ → Option Guard → Type 0
TakesRow sheet row None = Unit {0}
TakesRow sheet row (Some h) = GuardHolds sheet row h

-- the row's branch, with its number from 1: the first one whose guard holds there, or the last one
abbrev pub IsBranchAt : SheetData → ℕ → List BranchData → ℕ → BranchData → Type 0
IsBranchAt sheet row branches n b = (before : List BranchData) × (after : List BranchData) × (branches ≡ before ++ b ∷ after)
    × All (λ c. ¬ (TakesRow sheet row c.guard)) before × TakesRow sheet row b.guard × (n ≡ suc (length before))

-- a row with an example is given; another one is in doubt where programs that explain its branch's examples answer differently there
abbrev pub StateIs : Ground → List Example → List Example → ℕ → State → Type 0
StateIs g examples branch row Given = HasExample examples row
StateIs g examples branch row Doubt = ¬ (HasExample examples row) × IsDoubtful g branch row
StateIs g examples branch row Sure = ¬ (HasExample examples row) × ¬ (IsDoubtful g branch row)

-- the answer on a row: without examples there is no branch and no text
abbrev pub AnswerIs : Ground → List Example → ℕ → Answer → Type 0
AnswerIs g [] row a = (a.branch ≡ 0) × (a.text ≡ None) × (a.state ≡ Sure)
AnswerIs g (e ∷ es) row a = (branches : List BranchData) × (b : BranchData) × AreBranches g (e ∷ es) branches
    × IsBranchAt g.sheet row branches a.branch b × IsValue (ProgramIs g.sheet g.tables row b.program) a.text
    × StateIs g (e ∷ es) b.examples row a.state

-- the case of a branch that has a guard
abbrev pub cases_of : Option Guard → Atoms → List CaseTree
cases_of None p = []
cases_of (Some h) p = (record { guard = h; program = p }) ∷ []

abbrev pub with_branch : BranchData → SwitchTree → SwitchTree
with_branch b s = record { cases = cases_of b.guard b.program ++ s.cases; last = s.last }

-- the conditional program of branches: a case for each but the last; none without a branch
abbrev pub switch_of : List BranchData → Option SwitchTree
switch_of [] = None
switch_of (b ∷ []) = Some (record { cases = []; last = b.program })
switch_of (b ∷ c ∷ later) = option_map (with_branch b) (switch_of (c ∷ later))
