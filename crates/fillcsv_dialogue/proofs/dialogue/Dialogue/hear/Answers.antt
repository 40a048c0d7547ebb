use Rattle.std.proofs.Common.{◌∙◌, ap}
use Rattle.std.specs.Io.KnownBytes.{prepend_known}
use Rattle.fill_session.specs.Suggested.{asked_of}
use Rattle.fillcsv_dialogue.specs.Replies.{reply_in}
use Rattle.fillcsv_dialogue.proofs.Talking.{hears_taken}
use Rattle.fillcsv_dialogue.proofs.dialogue.Dialogue.hear.Goals as goal

pub returns-clause-hears : goal.returns-clause-hears
returns-clause-hears g c =
    hears_taken c.take_reply.result (asked_of c.args.asked) c.in_ok-reply.reply c.args.self.now.kept.items c.take_reply.new.kept.items
    (prepend_known c.args.self.now.lines.held (g.S.Source.left c.args.input.now)) (prepend_known c.next.new.self.held (g.S.Source.left c.next.new.source))
    (g.S.Source.faults c.args.input.now) (g.S.Source.faults c.next.new.source) c.in-Some.line
    (rw c.in-Some.is at c.in_ok-line.ensures.line) (c.in_ok-reply.ensures ∙ ap reply_in c.as_slice.ensures) c.take_reply.ensures.replied c.take_reply.ensures.stays
