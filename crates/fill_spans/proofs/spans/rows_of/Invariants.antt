use Rattle.fill_spans.specs.Read.{AreRows}
use Rattle.fill_spans.proofs.spans.rows_of.Given as goal

abbrev pub invariant-loop-i : goal.invariant-loop-i
invariant-loop-i l = AreRows l.token_set l.i l.t l.rows.items
