use Rattle.std.proofs.Common.{◌≡◌, ◌↔◌, ℕ, List}
use Rattle.fill_arena.specs.Contents.{EachIn, SomeIn}
use Rattle.fill_eval.specs.Piece.{IsWithin, piece_text}
use Rattle.fill_doubt.specs.Values.{AreRising}
use Rattle.fill_doubt.proofs.Gains.{SomeBelow}
use Rattle.fill_doubt.proofs.listing.sorted.Given as goal

abbrev pub invariant-loop-i : goal.invariant-loop-i
invariant-loop-i l = record {
  within : EachIn IsWithin l.order.items;
  rising : AreRising l.order.items;
  exact : (v : List ℕ) → SomeIn (λ x. piece_text x ≡ v) l.order.items ↔ SomeBelow l.i l.pieces (λ x. piece_text x ≡ v);
}
