use Rattle.fill_sources.specs.Origins.{AreNumbered, Grown, InputsTo}
use Rattle.fill_sources.proofs.found.put_inputs.Given as goal

abbrev pub invariant-loop-i : goal.invariant-loop-i
invariant-loop-i l = record {
  numbered : AreNumbered l.texts;
  grown : Grown l.initial.texts.named.items l.texts.named.items (InputsTo l.on l.inputs l.i);
}
