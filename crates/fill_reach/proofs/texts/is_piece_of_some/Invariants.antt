use Rattle.std.proofs.Common.{◌≡◌, ◌<◌, ℕ, List, map, slice_get, Some}
use Rattle.fill_reach.specs.Spots.{IsPieceOf}
use Rattle.fill_reach.proofs.texts.is_piece_of_some.Given as goal

abbrev pub invariant-loop-text : goal.invariant-loop-text
invariant-loop-text l = (k : ℕ) (u : List ℕ) → k < l.text-index → slice_get (map (λ text. text.now) l.texts) k ≡ Some u → ¬ (IsPieceOf l.cell u)
