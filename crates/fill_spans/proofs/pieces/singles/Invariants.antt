use Rattle.fill_spans.specs.Pieces.{AreExactly}
use Rattle.fill_spans.specs.Read.{SinglesBelow}
use Rattle.fill_spans.proofs.pieces.singles.Given as goal

abbrev pub invariant-loop-i : goal.invariant-loop-i
invariant-loop-i l = AreExactly (SinglesBelow l.c l.t l.i) l.pieces.starts.items l.pieces.ends.items
