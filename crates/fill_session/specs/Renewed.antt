-- States of a history whose spaces are replaced by others.
use Rattle.std.specs.Prelude.{◌≡◌, ℕ, List, [], ◌∷◌, ◌++◌, length}
use Rattle.std.specs.List.{flat_map}
use Rattle.fill_tree.specs.declared.user.Example.{Example}
use Rattle.fill_split.specs.Renewal.{IsRenewed}
use Rattle.fill_split.specs.Standing.{kept_of}
use Rattle.fill_split.specs.declared.folds.Folds.{Folds}
use Rattle.fill_space.specs.declared.ground.Ground.{Ground}
use Rattle.fill_space.specs.Spaces.{SpacesData}
use Rattle.fill_undo.specs.Moves.{Moves}
use Rattle.fill_undo.specs.declared.done.Moved.{Moved}

module _ {S : Type 0} where
  -- the moves of both sides as one list
  abbrev pub all_moves : Moves S → List (Moved S)
  all_moves moves = moves.past ++ moves.future

  -- the spaces of all states of some moves
  abbrev pub spaces_of : (S → List ℕ) → List (Moved S) → List ℕ
  spaces_of kept moves = flat_map (λ moved. kept moved.state) moves

  -- the states are replaced one by one, each by means of its own part of the listed spaces; the edits stay
  abbrev pub AllReplaced : (S → List ℕ → S → Type 0) → List (Moved S) → List ℕ → List (Moved S) → Type 0
  AllReplaced by [] spaces [] = spaces ≡ []
  AllReplaced by [] spaces (next ∷ after) = ⊥
  AllReplaced by (moved ∷ before) spaces [] = ⊥
  AllReplaced by (moved ∷ before) spaces (next ∷ after) =
      (own : List ℕ) × (rest : List ℕ) × (spaces ≡ own ++ rest) × (next.done ≡ moved.done) × by moved.state own next.state × AllReplaced by before rest after

-- folds that hold these spaces in place of theirs
pub record AreRenewed {T : Type 0} (before : Folds SpacesData Example ℕ T Ground) (spaces : List ℕ) (after : Folds SpacesData Example ℕ T Ground) : Type 0 where
  pub long : length spaces ≡ length (kept_of before)
  pub renewed : IsRenewed before spaces after
