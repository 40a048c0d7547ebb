-- Lists of examples that folds stand for, and the branches that are made of them.
use Rattle.std.specs.Prelude.{◌≡◌, ℕ, suc, List, length, slice_get, Bool, true, false, Option, Some, None}
use Rattle.std.specs.List.{AllZip}
use Rattle.fill_tree.specs.Separate.{Separates, IsLeastGuard}
use Rattle.fill_tree.specs.declared.guard.Guard.{Guard}
use Rattle.fill_tree.specs.declared.user.Example.{Example}
use Rattle.fill_split.specs.declared.folds.Fold.{Fold}
use Rattle.fill_space.specs.declared.ground.Ground.{Ground}
use Rattle.fill_space.specs.Spaces.{SpacesData, SpaceStands}
use Rattle.fill_session.specs.Branches.{BranchData, AreGuarded, lists_of}
use Rattle.fill_session.specs.Fate.{IsFirstUnguarded}
use Rattle.fill_session.specs.State.{Shows}
use Rattle.fill_session.specs.declared.branch.Branch.{Branch}
use Rattle.fill_session.specs.declared.error.EditError.{EditError}
use Rattle.fill_session.specs.declared.error.EditError.TheVariants as error

-- the examples at these places are those of the list
abbrev pub ArePicked : List Example → List ℕ → List Example → Type 0
ArePicked examples places list = AllZip (λ i x. slice_get examples i ≡ Some x) places list

-- the examples at the places of each fold are those of its list
abbrev pub ArePickedAll : List Example → List (Fold ℕ) → List (List Example) → Type 0
ArePickedAll examples folds lists = AllZip (λ f list. ArePicked examples f.items list) folds lists

-- the fold's space stands for the list, and has a place for each of its examples
pub record KeptFor (s : SpacesData) (f : Fold ℕ) (list : List Example) : Type 0 where
  pub stands : SpaceStands s f.kept list
  pub size : length f.items ≡ length list

abbrev pub AreKept : SpacesData → List (Fold ℕ) → List (List Example) → Type 0
AreKept s folds lists = AllZip (KeptFor s) folds lists

-- the guard of the rows inside: the least that tells them from those outside, and none for the last branch
abbrev pub IsGuardOf : Ground → List ℕ → List ℕ → Bool → Option Guard → Type 0
IsGuardOf g inside outside true guard = guard ≡ None
IsGuardOf g inside outside false guard = (h : Guard) × (guard ≡ Some h) × IsLeastGuard g.settings g.sheet inside outside h

-- the branch of this number is not the last one, and no guard tells the rows inside from those outside
pub record IsUnguarded (g : Ground) (inside outside : List ℕ) (branch : ℕ) (last : Bool) (reason : EditError) : Type 0 where
  pub early : last ≡ false
  pub told : reason ≡ error.NoGuard branch
  pub none : (h : Guard) → ¬ (Separates g.settings g.sheet inside outside h)

-- the shown branches are those of the lists, with their guards and programs
abbrev pub AreBranchesOf : Ground → List (List Example) → List Branch → Type 0
AreBranchesOf g lists shown = (branches : List BranchData) × (lists_of branches ≡ lists) × AreGuarded g branches × AllZip Shows shown branches

-- the reason tells the first of the lists that can't be guarded
abbrev pub LacksGuard : Ground → List (List Example) → EditError → Type 0
LacksGuard g lists reason = (k : ℕ) × IsFirstUnguarded g lists k × (reason ≡ error.NoGuard (suc k))
