use Rattle.test_language.proofs.eval.switch_gives.Goals as goal

pub switch_value-requires-clause-inputs : goal.switch_value-requires-clause-inputs
switch_value-requires-clause-inputs c = c.switch_reads_inputs.ensures.0 c.if-not-switch_reads_inputs.false
