use Rattle.std.proofs.Common.{refl}
use Rattle.std.proofs.KnownBytes.{Keeps-refl}
use Rattle.fill_open.specs.Command.{replay}
use Rattle.fill_open.specs.Steps.{replay_opens}
use Rattle.fill_command.specs.Run.{world}
use Rattle.fill_command.proofs.Endings.{report_ends, stop_ends}
use Rattle.fill_command.proofs.Steps.{passed, stopped}
use Rattle.fill_command.proofs.replay.replay.Goals as goal

pub returns-in-Ok-clause-ends : goal.returns-in-Ok-clause-ends
returns-in-Ok-clause-ends g c =
    let name = c.args.session.now in
    let files = g.C.Cabinet.files c.args.cabinet.now in
    report_ends (replay name)
    (world files (g.C.Cabinet.faults c.args.cabinet.now) (g.O.Sink.written c.args.out.now) (g.O.Sink.faults c.args.out.now) c.args.steps.now)
    (world (g.C.Cabinet.files c.open_replay.new.cabinet) (g.C.Cabinet.faults c.open_replay.new.cabinet) (g.O.Sink.written c.report.new.out) (g.O.Sink.faults c.report.new.out) c.report.new.steps)
    c.in-Ok.ready (passed (replay name) (λ held. replay_opens held name) (λ held. refl) (λ held o is. is) files c.in-Ok.ready c.in-Ok.ensures.ready)
    c.report.result c.ended.result c.ended.ensures c.report.ensures.whole c.report.ensures.part c.report.ensures.fault c.report.ensures.memory

pub returns-in-Err-clause-ends : goal.returns-in-Err-clause-ends
returns-in-Err-clause-ends g c =
    let name = c.args.session.now in
    let files = g.C.Cabinet.files c.args.cabinet.now in
    stop_ends (replay name)
    (world files (g.C.Cabinet.faults c.args.cabinet.now) (g.O.Sink.written c.args.out.now) (g.O.Sink.faults c.args.out.now) c.args.steps.now)
    (world (g.C.Cabinet.files c.open_replay.new.cabinet) (g.C.Cabinet.faults c.open_replay.new.cabinet) (g.O.Sink.written c.args.out.now) (g.O.Sink.faults c.args.out.now) c.args.steps.now)
    c.in-Err.stop c.of_stop.result c.of_stop.ensures
    (stopped (replay name) (λ held. replay_opens held name) (λ held. refl) (λ held o is. is) files _ _ c.in-Err.stop c.in-Err.ensures.stopped) (Keeps-refl (g.O.Sink.written c.args.out.now), refl)
