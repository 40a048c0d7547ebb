-- The moves of a history, back and forth.
use Rattle.std.specs.Prelude.{◌≡◌, ℕ, ◌+◌, ◌-◌, ◌≤◌, zero, suc, List, [], ◌∷◌, ◌++◌, length, drop, slice_get, Option, option_map, Vec, vec_len, vec_capacity, nat_lt, if◌then◌else◌}
use Rattle.fill_undo.specs.declared.done.Done.{Done}
use Rattle.fill_undo.specs.declared.done.Moved.{Moved}

-- the edits that can be undone, and those that can be redone, each with the state on its other side; the next one is the last
pub record Moves (S : Type 0) : Type 0 where
  pub past : List (Moved S)
  pub future : List (Moved S)

-- there is room for 32 moves on each side, and there are no more on both together
pub record HaveRoom {M A : Type 0} (past future : Vec M A) : Type 0 where
  pub few : vec_len past + vec_len future ≤ 32
  pub back : vec_capacity past ≡ 32
  pub forth : vec_capacity future ≡ 32

module _ {S : Type 0} where
  abbrev pub no_moves : Moves S
  no_moves = record { past = []; future = [] }

  -- how many moves there are
  abbrev pub count_of : Moves S → ℕ
  count_of moves = length moves.past + length moves.future

  -- the state of a place, from 0, the past before the future
  abbrev pub state_at : Moves S → ℕ → Option S
  state_at moves i = option_map (λ moved. moved.state) (slice_get (moves.past ++ moves.future) i)

  -- what the edit of a place did, likewise
  abbrev pub done_at : Moves S → ℕ → Option Done
  done_at moves i = option_map (λ moved. moved.done) (slice_get (moves.past ++ moves.future) i)

  -- the moves with another state at a place
  abbrev pub with_state : List (Moved S) → ℕ → S → List (Moved S)
  with_state [] i state = []
  with_state (moved ∷ more) zero state = record moved { state = state } ∷ more
  with_state (moved ∷ more) (suc i) state = moved ∷ with_state more i state

  abbrev pub with_state_at : Moves S → ℕ → S → Moves S
  with_state_at moves i state =
      record { past = with_state moves.past i state; future = if nat_lt i (length moves.past) then moves.future else with_state moves.future (i - length moves.past) state }

-- the last 32 of some moves
abbrev pub latest : {M : Type 0} → List M → List M
latest moves = drop (length moves - 32) moves
