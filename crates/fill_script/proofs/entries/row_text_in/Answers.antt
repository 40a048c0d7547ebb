use Rattle.fill_script.proofs.Lines.{field_is_text}
use Rattle.fill_script.proofs.entries.row_text_in.Goals as goal

pub text-requires-clause-text : goal.text-requires-clause-text
text-requires-clause-text c = field_is_text c.args.line.now 3 c.requires
