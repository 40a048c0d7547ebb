use Rattle.fill_tokens.specs.Kind.{run_has}
use Rattle.fill_spans.specs.Read.{AreRead}
use Rattle.fill_spans.proofs.runs.runs.Given as goal

abbrev pub invariant-loop-i : goal.invariant-loop-i
invariant-loop-i l = AreRead (run_has l.class) l.t l.i l.pieces.starts.items l.pieces.ends.items l.run
