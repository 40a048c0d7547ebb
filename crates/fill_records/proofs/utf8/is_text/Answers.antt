use Rattle.std.proofs.Common.{sym}
use Rattle.std.proofs.lemmas.Str.{IsUtf8-from_ascii, IsUtf8-from_is_utf8, is_utf8-from_IsUtf8}
use Rattle.std.proofs.lemmas.Bool.{false_from_ne_true}
use Rattle.fill_records.proofs.utf8.is_text.Goals as goal

pub returns-in-Ok : goal.returns-in-Ok
returns-in-Ok c = sym (is_utf8-from_IsUtf8 _ c.in-Ok.ensures.cases.1)

pub returns-in-Err : goal.returns-in-Err
returns-in-Err c = sym (false_from_ne_true _ (λ text. c.in-Err.ensures.cases.0 (IsUtf8-from_is_utf8 _ text)))

pub returns-then-is_ascii : goal.returns-then-is_ascii
returns-then-is_ascii c = sym (is_utf8-from_IsUtf8 _ (IsUtf8-from_ascii c.args.bytes.now (c.is_ascii.ensures.0 c.if-is_ascii.true)))
