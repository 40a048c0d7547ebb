-- The best programs of a branch, from those of its space.
use Rattle.std.proofs.Common.{ℕ, ◌≤◌, List, map, Result, Ok, Err}
use Rattle.std.specs.Prelude.{IfOk}
use Rattle.fill_text.specs.declared.error.NoMemory.{NoMemory}
use Rattle.fill_tree.specs.Meaning.{program_tree}
use Rattle.fill_tree.specs.declared.tree.Program.{Program}
use Rattle.fill_tree.specs.declared.user.Example.{Example}
use Rattle.fill_space.specs.Best.{AreBestOn, BeginsWithChosen}
use Rattle.fill_space.specs.Spaces.{SpacesData, SpaceStands}
use Rattle.fill_space.proofs.Best.{best_begins}
use Rattle.fill_session.specs.State.{IsBranch}

module _ (s : SpacesData) (xs : List Example) (branch space k : ℕ) (stands : (list : List Example) → IsBranch s.ground xs branch list → SpaceStands s space list) where
  pub best_of_branch : (r : Result (List Program) NoMemory)
      → IfOk r (λ made. (l : List Example) → SpaceStands s space l → AreBestOn s.ground l k (map program_tree made))
      → IfOk r (λ made. (list : List Example) → IsBranch s.ground xs branch list → AreBestOn s.ground list k (map program_tree made))
  best_of_branch (Ok made) h = λ list is. h list (stands list is)
  best_of_branch (Err want) h = tt

  pub begins_with_chosen : (r : Result (List Program) NoMemory) → 1 ≤ k
      → IfOk r (λ made. (l : List Example) → SpaceStands s space l → AreBestOn s.ground l k (map program_tree made))
      → IfOk r (λ made. (list : List Example) → IsBranch s.ground xs branch list → BeginsWithChosen s.ground list (map program_tree made))
  begins_with_chosen (Ok made) some h = λ list is. best_begins s.ground list k (map program_tree made) some (stands list is).some (h list (stands list is))
  begins_with_chosen (Err want) some h = tt
