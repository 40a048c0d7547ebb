-- What is true of branches that stood before an edit.
use Rattle.std.specs.Prelude.{ℕ, List, [], ◌∷◌, IfSome}
use Rattle.std.specs.List.{AllZip, flat_map}
use Rattle.fill_split.specs.declared.folds.Fold.{Fold}
use Rattle.fill_tree.specs.Meaning.{program_tree}
use Rattle.fill_tree.specs.Separate.{IsLeastGuard}
use Rattle.fill_tree.specs.declared.user.Example.{Example}
use Rattle.fill_space.specs.declared.ground.Ground.{Ground}
use Rattle.fill_space.specs.Ground.{ChosenOn}
use Rattle.fill_space.specs.Spaces.{SpacesData, SpaceStands}
use Rattle.fill_session.specs.declared.branch.Branch.{Branch}

-- the rows of all these branches
abbrev pub shown_rows : List Branch → List ℕ
shown_rows shown = flat_map (λ x. x.rows) shown

-- where the branch has a guard, it is the least one that tells its rows from those of the later branches
abbrev pub IsTold : Ground → Branch → List Branch → Type 0
IsTold g x later = IfSome x.guard (IsLeastGuard g.settings g.sheet x.rows (shown_rows later))

-- so of each of these branches
abbrev pub AreTold : Ground → List Branch → Type 0
AreTold g [] = Unit {0}
AreTold g (x ∷ later) = IsTold g x later × AreTold g later

-- the branch has the chosen program of examples that the fold's space stands for
abbrev pub HasChosen : SpacesData → Fold ℕ → Branch → Type 0
HasChosen s f x = (list : List Example) × SpaceStands s f.kept list × ChosenOn s.ground list (program_tree x.program)

-- so each of these branches, in the order of the folds
abbrev pub HaveChosen : SpacesData → List (Fold ℕ) → List Branch → Type 0
HaveChosen s folds shown = AllZip (HasChosen s) folds shown
