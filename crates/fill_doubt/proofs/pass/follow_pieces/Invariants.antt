use Rattle.std.proofs.Common.{◌≡◌, ℕ, ◌<◌, ◌≤◌, List, Some, length, slice_get}
use Rattle.fill_arena.specs.Contents.{In}
use Rattle.fill_arena.specs.declared.entry.Edge.{Edge}
use Rattle.fill_eval.specs.Piece.{piece_text}
use Rattle.fill_eval.specs.declared.piece.Piece.{Piece}
use Rattle.fill_doubt.specs.Answers.{PiecesHave}
use Rattle.fill_doubt.specs.Memo.{EdgeAnswers}
use Rattle.fill_doubt.specs.Walks.{Agrees, AreLaid, IsAt, KeepsLengths}
use Rattle.fill_doubt.specs.declared.row.OnRow.{OnRow}
use Rattle.fill_doubt.proofs.pass.follow_pieces.Given as goal

abbrev pub invariant-loop-i : goal.invariant-loop-i
invariant-loop-i l = record {
  keeps : KeepsLengths l.initial.lengths l.lengths;
  short : (n a : ℕ) → IsAt l.lengths n a → a ≤ length l.text;
  laid : (on : OnRow) (edges : List Edge) (e : Edge) → In e edges → e.from ≡ l.from → e.to ≡ l.to → ((t : List ℕ) → PiecesHave l.found (Some t) → EdgeAnswers on e (Some t)) →
      AreLaid (EdgeAnswers on) edges l.text l.initial.lengths → AreLaid (EdgeAnswers on) edges l.text l.lengths;
  agree : (k : ℕ) (x : Piece) → k < l.i → slice_get l.found.pieces.items k ≡ Some x → Agrees l.text l.lengths l.from l.to (piece_text x);
}
