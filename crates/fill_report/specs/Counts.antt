-- Numbers of rows by their states.
use Rattle.std.specs.Prelude.{◌≡◌, ℕ, ◌≤◌, List, Option, IfSome, length}
use Rattle.fill_tree.specs.declared.user.Example.{Example}
use Rattle.fill_space.specs.declared.ground.Ground.{Ground}
use Rattle.fill_report.specs.Rows.{AreRowStates, count_of}
use Rattle.fill_report.specs.declared.rows.Counts.{Counts}
use Rattle.fill_states.specs.declared.row_state.RowState.{RowState}
use Rattle.fill_states.specs.declared.row_state.RowState.TheVariants as state

-- these are the numbers of the states
pub record AreCounts (c : Counts) (states : List RowState) : Type 0 where
  pub given : c.given ≡ count_of state.Given states
  pub sure : c.sure ≡ count_of state.Sure states
  pub doubt : c.doubt ≡ count_of state.Doubt states
  pub nothing : c.nothing ≡ count_of state.Nothing states
  pub nothing_in_doubt : c.nothing_in_doubt ≡ count_of state.NothingInDoubt states

-- no number is above n
pub record IsWithin (c : Counts) (n : ℕ) : Type 0 where
  pub given : c.given ≤ n
  pub sure : c.sure ≤ n
  pub doubt : c.doubt ≤ n
  pub nothing : c.nothing ≤ n
  pub nothing_in_doubt : c.nothing_in_doubt ≤ n

-- these are the numbers of the states of the first n rows
abbrev pub CountRows : Ground → List Example → ℕ → Counts → Type 0
CountRows g examples n c = (states : List RowState) × AreRowStates g examples n states × AreCounts c states

-- what is known of how many rows of the sheet have each state, where these examples are present
abbrev pub IsMemoOf : Ground → List Example → Option Counts → Type 0
IsMemoOf g examples memo = IfSome memo (CountRows g examples (length g.sheet.rows))
