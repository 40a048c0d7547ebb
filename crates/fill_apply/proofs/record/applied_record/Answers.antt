use Rattle.fill_apply.proofs.FirstOthers.{cases_read}
use Rattle.fill_apply.proofs.record.applied_record.Goals as goal

pub switch_value-requires-clause-inputs : goal.switch_value-requires-clause-inputs
switch_value-requires-clause-inputs c = cases_read c.args.sheet.now c.args.s.now.cases c.requires.inputs
