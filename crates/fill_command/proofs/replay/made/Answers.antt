use Rattle.std.proofs.Common.{refl}
use Rattle.std.proofs.KnownBytes.{Keeps-refl}
use Rattle.fill_open.specs.Command.{made}
use Rattle.fill_open.specs.Steps.{made_opens}
use Rattle.fill_command.specs.Run.{world}
use Rattle.fill_command.proofs.Endings.{report_ends, stop_ends}
use Rattle.fill_command.proofs.Steps.{made_stopped}
use Rattle.fill_command.proofs.replay.made.Goals as goal

pub returns-in-Ok : goal.returns-in-Ok
returns-in-Ok g c = λ files unread.
    report_ends (made c.args.n)
    (world files unread (g.O.Sink.written c.args.out.now) (g.O.Sink.faults c.args.out.now) c.args.steps.now)
    (world files unread (g.O.Sink.written c.report.new.out) (g.O.Sink.faults c.report.new.out) c.report.new.steps)
    c.in-Ok.ready (made_opens c.args.n, refl, c.in-Ok.ensures.ready)
    c.report.result c.ended.result c.ended.ensures c.report.ensures.whole c.report.ensures.part c.report.ensures.fault c.report.ensures.memory

pub returns-in-Err : goal.returns-in-Err
returns-in-Err g c = λ files unread.
    let same = world files unread (g.O.Sink.written c.args.out.now) (g.O.Sink.faults c.args.out.now) c.args.steps.now in
    stop_ends (made c.args.n) same same c.in-Err.stop c.of_stop.result c.of_stop.ensures
    (made_stopped c.args.n files unread unread c.in-Err.stop c.in-Err.ensures.stopped) (Keeps-refl (g.O.Sink.written c.args.out.now), refl)
