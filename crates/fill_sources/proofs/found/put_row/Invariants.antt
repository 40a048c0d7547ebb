use Rattle.fill_sources.specs.Origins.{AreNumbered, FreeTo, Grown}
use Rattle.fill_sources.proofs.found.put_row.Given as goal

abbrev pub invariant-loop-column : goal.invariant-loop-column
invariant-loop-column l = record {
  numbered : AreNumbered l.texts;
  grown : Grown l.initial.texts.named.items l.texts.named.items (FreeTo l.on.tables.now l.at l.column);
}
