use Rattle.std.proofs.Common.{◌≢◌, ◌+◌, ◌<◌, ℕ, slice_range}
use Rattle.fill_reach.proofs.texts.is_piece_of.Given as goal

abbrev pub invariant-loop-from : goal.invariant-loop-from
invariant-loop-from l = (a : ℕ) → a < l.from → slice_range l.text a (a + l.size) ≢ l.cell
