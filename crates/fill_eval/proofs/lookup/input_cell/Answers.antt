use Rattle.std.proofs.Common.{sym}
use Rattle.fill_eval.proofs.Lookups.{no_input}
use Rattle.fill_eval.proofs.lookup.input_cell.Goals as goal

pub returns-else-is_input : goal.returns-else-is_input
returns-else-is_input c = sym (no_input c.args.sheet.now c.args.row c.args.column (λ h. let is = c.is_input.ensures.1 h in let not = c.if-is_input.false in cc))
