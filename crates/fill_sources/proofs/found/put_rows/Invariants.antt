use Rattle.fill_sources.specs.Origins.{AreNumbered, Grown, RowsTo}
use Rattle.fill_sources.proofs.found.put_rows.Given as goal

abbrev pub invariant-loop-i : goal.invariant-loop-i
invariant-loop-i l = record {
  numbered : AreNumbered l.texts;
  grown : Grown l.initial.texts.named.items l.texts.named.items (RowsTo l.on.tables.now l.rows l.i);
}
