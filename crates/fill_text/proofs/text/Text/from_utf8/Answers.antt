use Rattle.std.proofs.Common.{◌∙◌, sym}
use Rattle.std.proofs.lemmas.Str.{chars-IsAscii, IsUtf8-from_ascii}
use Rattle.fill_text.proofs.text.Text.from_utf8.Goals as goal

pub returns-in-Ok-clause-ok : goal.returns-in-Ok-clause-ok
returns-in-Ok-clause-ok c = c.in-Ok.ensures ∙ sym (chars-IsAscii c.args.bytes.now (c.is_ascii.ensures.0 c.if-is_ascii.true))

pub returns-in-Ok-clause-spelled : goal.returns-in-Ok-clause-spelled
returns-in-Ok-clause-spelled c = IsUtf8-from_ascii c.args.bytes.now (c.is_ascii.ensures.0 c.if-is_ascii.true)
