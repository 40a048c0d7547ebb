use Rattle.std.proofs.Common.{◌∙◌}
use Rattle.std.proofs.lemmas.Result.{IfOk-weaker}
use Rattle.fillcsv_dialogue.proofs.Taking.{reply_read, reply_unread}
use Rattle.fillcsv_dialogue.proofs.replies.reply_in.Goals as goal

pub returns-in-Ok : goal.returns-in-Ok
returns-in-Ok c = IfOk-weaker c.reply_of.result _ _ (λ r h. h ∙ reply_read c.args.line.now c.in-Ok.line.now c.in-Ok.ensures.cases.0 c.in-Ok.ensures.cases.1) c.reply_of.ensures

pub returns-in-Err : goal.returns-in-Err
returns-in-Err c = reply_unread c.args.line.now c.in-Err.ensures.cases.0
