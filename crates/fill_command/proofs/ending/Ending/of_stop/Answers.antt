use Rattle.std.proofs.Common.{inr, refl}
use Rattle.fill_command.proofs.ending.Ending.of_stop.Goals as goal

pub returns-in-Unread : goal.returns-in-Unread
returns-in-Unread c = inr (c.in-Ok.line, c.in-Ok.ensures, rw c.in-Unread.is refl)

pub returns-in-Refused : goal.returns-in-Refused
returns-in-Refused c = inr (c.in-Ok.line, c.in-Ok.ensures, rw c.in-Refused.is refl)
