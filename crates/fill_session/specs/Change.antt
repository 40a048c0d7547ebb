-- What an edit changes in the list of examples.
use Rattle.std.specs.Prelude.{◌≡◌, ◌+◌, ◌*◌, List, length, drop}
use Rattle.fill_split.specs.Changes.{changed as changed_at, IsPlace, IsAllowed}
use Rattle.fill_split.specs.declared.place.TheConstants.{MOST_BRANCHES}
use Rattle.fill_tree.specs.declared.user.Edit.{Edit}
use Rattle.fill_tree.specs.declared.user.Example.{Example}
use Rattle.fill_space.specs.declared.ground.Ground.{Ground}
use Rattle.fill_space.specs.Ground.{MayStand}
use Rattle.fill_session.specs.Edits.{changed}
use Rattle.fill_session.specs.Outcome.{term}
use Rattle.fill_session.specs.declared.examples.ChangeAt.{ChangeAt}

-- the change is the edit's, is allowed, and costs what the edit may cost
pub record IsChangeOf (g : Ground) (examples : List Example) (edit : Edit) (c : ChangeAt) : Type 0 where
  pub place : IsPlace c.change c.at (length examples)
  pub same : changed_at c.change c.at examples ≡ changed examples edit
  pub allowed : IsAllowed (MayStand g) c.change
  pub cost : 1 + MOST_BRANCHES * length (drop c.at (changed examples edit)) ≡ term g.sheet examples edit
