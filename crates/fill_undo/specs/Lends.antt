-- What a history ends as, where a state is lent to be changed.
use Rattle.std.specs.Prelude.{ℕ}
use Rattle.std.specs.Borrow.{Lends, RattleType, MutBor, Fml}
use Rattle.fill_undo.specs.Moves.{Moves, with_state_at}
use Rattle.fill_undo.specs.contracts.history.History.{the_row}

-- the last value of r is then the state at the place, and nothing else changes
abbrev pub LendsState : (S : RattleType) → MutBor (Moves S.Denot) → ℕ → MutBor S.Denot → Fml
LendsState S history i r = Lends (the_row S) S history r (with_state_at history.now i)
