-- What a session is seen as, and what is true of each.
use Rattle.std.specs.Prelude.{◌≡◌, ◌↔◌, ℕ, suc, ◌≤◌, List, length, map, All, ◌++◌, slice_get, Some}
use Rattle.std.specs.List.{AllZip}
use Rattle.fill_tree.specs.Meaning.{program_tree}
use Rattle.fill_tree.specs.declared.user.Example.{Example}
use Rattle.fill_tree.specs.declared.user.TheConstants.{MOST_EXAMPLES}
use Rattle.fill_split.specs.Standing.{StandsBy, rule_of}
use Rattle.fill_split.specs.declared.folds.Folds.{Folds}
use Rattle.fill_undo.specs.Moves.{Moves}
use Rattle.fill_space.specs.declared.ground.Ground.{Ground}
use Rattle.fill_space.specs.Ground.{MayStand, FitsOn, WeighsOn}
use Rattle.fill_space.specs.Spaces.{SpacesData, SpaceStands}
use Rattle.fill_session.specs.Edits.{AreExamples, rows_of}
use Rattle.fill_session.specs.Branches.{AreBranches, BranchData, ArePlaced, rule_of_profile}
use Rattle.fill_session.specs.declared.branch.Branch.{Branch}

-- a session: its spaces, which tell the sheet, the tables and the settings, what is present, and the edits that can be undone and redone, each with the examples on its other side
pub record SessionData : Type 0 where
  pub spaces : SpacesData
  pub examples : List Example
  pub branches : List Branch
  pub moves : Moves (List Example)

-- the shown branch is this one
pub record Shows (x : Branch) (b : BranchData) : Type 0 where
  pub rows : x.rows ≡ rows_of b.examples
  pub guard : x.guard ≡ b.guard
  pub program : program_tree x.program ≡ b.program

-- the shown branches are those of the examples
abbrev pub AreShown : Ground → List Example → List Branch → Type 0
AreShown g examples shown = (branches : List BranchData) × AreBranches g examples branches × AllZip Shows shown branches

-- what is true of the examples that are present in a session and of the branches that it shows
pub record IsSession (s : SpacesData) (examples : List Example) (branches : List Branch) : Type 0 where
  pub rising : AreExamples examples
  pub few : length examples ≤ MOST_EXAMPLES
  pub each : All (MayStand s.ground) examples
  pub shown : AreShown s.ground examples branches

-- the folds stand for the examples, their values being spaces
abbrev pub SpacesStand : {T : Type 0} → SpacesData → List Example → Folds SpacesData Example ℕ T Ground → Type 0
SpacesStand s examples folds = StandsBy (SpaceStands s) (FitsOn s.ground) (WeighsOn s.ground) examples folds

-- what is true of what a session holds
pub record IsHeld {T : Type 0} (s : SpacesData) (examples : List Example) (folds : Folds SpacesData Example ℕ T Ground) (shown : List Branch) : Type 0 where
  pub session : IsSession s examples shown
  pub stand : SpacesStand s examples folds
  pub rule : rule_of folds ≡ rule_of_profile s.ground.settings.profile

-- a history, of each state what is seen of it
abbrev pub seen_as : {S A : Type 0} → (S → A) → Moves S → Moves A
seen_as see moves = record {
  past = map (λ moved. record { state = see moved.state; done = moved.done }) moves.past;
  future = map (λ moved. record { state = see moved.state; done = moved.done }) moves.future;
}

-- what is held so of each state of a history
abbrev pub AreHeld : {S : Type 0} → (S → Type 0) → Moves S → Type 0
AreHeld held moves = All (λ moved. held moved.state) (moves.past ++ moves.future)

-- the branch of this number, from 1, is that of these examples
abbrev pub IsBranch : Ground → List Example → ℕ → List Example → Type 0
IsBranch g examples n branch = (lists : List (List Example)) × (k : ℕ) × ArePlaced g examples lists × (slice_get lists k ≡ Some branch) × (n ≡ suc k)

-- a session that is as it was: the same examples, branches and history, and each space stands for what it stood for and for nothing else
pub record IsAsBefore (old new : SessionData) : Type 0 where
  pub ground : new.spaces.ground ≡ old.spaces.ground
  pub examples : new.examples ≡ old.examples
  pub branches : new.branches ≡ old.branches
  pub moves : new.moves ≡ old.moves
  pub spaces : (k : ℕ) (l : List Example) → SpaceStands old.spaces k l ↔ SpaceStands new.spaces k l
