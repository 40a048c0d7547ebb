-- What becomes of examples: they are accepted, or why they are not.
use Rattle.std.specs.Prelude.{◌≡◌, ℕ, suc, ◌<◌, ◌≤◌, List, length, drop, Option, None, Some, slice_get}
use Rattle.fill_tree.specs.Separate.{Separates}
use Rattle.fill_tree.specs.declared.guard.Guard.{Guard}
use Rattle.fill_tree.specs.declared.user.Example.{Example}
use Rattle.fill_split.specs.Refusals.{NotAlone, NinthAt}
use Rattle.fill_split.specs.declared.place.TheConstants.{MOST_BRANCHES}
use Rattle.fill_space.specs.declared.ground.Ground.{Ground}
use Rattle.fill_space.specs.Ground.{FitsOn, WeighsOn}
use Rattle.fill_session.specs.Edits.{rows_of}
use Rattle.fill_session.specs.Branches.{ArePlaced, AreBranches, BranchData, all_rows, rule_of_profile}
use Rattle.fill_session.specs.declared.error.EditError.{EditError}
use Rattle.fill_session.specs.declared.error.EditError.TheVariants as error

-- the example at this place is of the row
abbrev pub IsOfRow : List Example → ℕ → ℕ → Type 0
IsOfRow examples i row = (e : Example) × (slice_get examples i ≡ Some e) × (e.row ≡ row)

-- the example at this place has no program of its own
abbrev pub HasNoProgram : Ground → List Example → ℕ → Type 0
HasNoProgram g examples i = NotAlone (FitsOn g) examples i

-- each example has a program of its own
abbrev pub EachHasProgram : Ground → List Example → Type 0
EachHasProgram g examples = (i : ℕ) → ¬ (HasNoProgram g examples i)

-- the example at this place would open a ninth branch: those before it have eight, and it fits together with none of them
abbrev pub WouldOpenNinth : Ground → List Example → ℕ → Type 0
WouldOpenNinth g examples i = NinthAt (rule_of_profile g.settings.profile) (FitsOn g) (WeighsOn g) examples i

-- some guard tells the rows of the list at this place from those of the later lists
abbrev pub CanBeGuarded : Ground → List (List Example) → ℕ → Type 0
CanBeGuarded g lists k = (list : List Example) × (h : Guard) × (slice_get lists k ≡ Some list)
    × Separates g.settings g.sheet (rows_of list) (all_rows (drop (suc k) lists)) h

-- the first list but the last that can't be guarded
pub record IsFirstUnguarded (g : Ground) (lists : List (List Example)) (k : ℕ) : Type 0 where
  pub early : suc k < length lists
  pub unguarded : ¬ (CanBeGuarded g lists k)
  pub earlier : (j : ℕ) → j < k → CanBeGuarded g lists j

-- the examples are accepted: they have branches, each with its guard and its program
abbrev pub IsAccepted : Ground → List Example → Type 0
IsAccepted g examples = (branches : List BranchData) × AreBranches g examples branches

-- the first row whose example has no program of its own
abbrev pub IsRowWithoutProgram : Ground → List Example → ℕ → Type 0
IsRowWithoutProgram g examples row =
    (i : ℕ) × IsOfRow examples i row × HasNoProgram g examples i × ((j : ℕ) → j < i → ¬ (HasNoProgram g examples j))

-- each example has a program, and that of the row would open a ninth branch
abbrev pub IsRowOfNinth : Ground → List Example → ℕ → Type 0
IsRowOfNinth g examples row = EachHasProgram g examples × ((i : ℕ) × IsOfRow examples i row × WouldOpenNinth g examples i)

-- each example has a program, they have no more branches than there may be, and the branch of this number, from 1, is the first but
-- the last that can't be guarded
abbrev pub IsBranchWithoutGuard : Ground → List Example → ℕ → Type 0
IsBranchWithoutGuard g examples branch = EachHasProgram g examples
    × ((lists : List (List Example)) × (k : ℕ) × ArePlaced g examples lists × (length lists ≤ MOST_BRANCHES) × IsFirstUnguarded g lists k × (branch ≡ suc k))

-- what becomes of the examples: the reason for which they are refused, and none where they are accepted
abbrev pub FateIs : Ground → List Example → Option EditError → Type 0
FateIs g examples None = IsAccepted g examples
FateIs g examples (Some (error.NoProgram row)) = IsRowWithoutProgram g examples row
FateIs g examples (Some (error.TooManyBranches row)) = IsRowOfNinth g examples row
FateIs g examples (Some (error.NoGuard branch)) = IsBranchWithoutGuard g examples branch
FateIs g examples (Some (error.NoSuchRow rows)) = ⊥
FateIs g examples (Some error.HasExample) = ⊥
FateIs g examples (Some error.NoExample) = ⊥
FateIs g examples (Some (error.TooLong part count)) = ⊥
FateIs g examples (Some error.TooMany) = ⊥
FateIs g examples (Some error.NoMemory) = ⊥
