use Rattle.std.proofs.Common.{Err, ap, arith, inr, refl, ◌+◌, ◌∙◌, ◌≤◌}
use Rattle.std.proofs.KnownBytes.{Keeps-refl}
use Rattle.fill_open.specs.Apply.{application_data, named}
use Rattle.fill_open.specs.Command.{apply}
use Rattle.fill_command.specs.Output.{only}
use Rattle.fill_command.specs.Run.{world}
use Rattle.fill_command.proofs.Endings.{halt_ends, none_refused, stop_ends}
use Rattle.fill_command.proofs.Steps.{application_passed, application_stopped}
use Rattle.fill_command.proofs.apply.apply.Goals as goal

pub returns-in-Ok-write_applied-clause-ends : goal.returns-in-Ok-write_applied-clause-ends
returns-in-Ok-write_applied-clause-ends g c = λ steps.
    let a = application_data c.in-Ok.application in
    let opens = application_passed (named c.args.session.now c.args.program.now c.args.sheet.now) (g.C.Cabinet.files c.args.cabinet.now) a c.in-Ok.ensures.ready in
    let rows = c.in-Ok-write_applied.ensures.whole in
    let few : steps ≤ steps + 0 = omega arith in
    (a, opens, (only rows.0, (rows.0, rows.1, refl), rows.2, none_refused, few))

pub returns-in-Ok-clause-ends : goal.returns-in-Ok-clause-ends
returns-in-Ok-clause-ends g c = λ steps.
    let names = named c.args.session.now c.args.program.now c.args.sheet.now in
    let files = g.C.Cabinet.files c.args.cabinet.now in
    let a = application_data c.in-Ok.application in
    let few : steps ≤ steps + 0 = omega arith in
    halt_ends (apply names)
    (world files (g.C.Cabinet.faults c.args.cabinet.now) (g.O.Sink.written c.args.out.now) (g.O.Sink.faults c.args.out.now) steps)
    (world (g.C.Cabinet.files c.open_application.new.cabinet) (g.C.Cabinet.faults c.open_application.new.cabinet) (g.O.Sink.written c.write_applied.new.out) (g.O.Sink.faults c.write_applied.new.out) steps)
    a (application_passed names files a c.in-Ok.ensures.ready) c.in-Err-write_applied.halt c.of_halt.result c.of_halt.ensures
    (λ f. let rows = c.write_applied.ensures.part (c.in-Err-write_applied.is ∙ ap Err f) in (only rows.2.0, (rows.0, rows.1, (rows.2.0, rows.2.1, refl)), rows.2.2, few))
    (λ f. c.write_applied.ensures.fault (c.in-Err-write_applied.is ∙ ap Err f))
    (λ f. let rows = c.write_applied.ensures.memory (c.in-Err-write_applied.is ∙ ap Err f) in inr (only rows.2.0, (rows.0, rows.1, (rows.2.0, rows.2.1, refl)), rows.2.2, few))

pub returns-clause-ends : goal.returns-clause-ends
returns-clause-ends g c = λ steps.
    let names = named c.args.session.now c.args.program.now c.args.sheet.now in
    let files = g.C.Cabinet.files c.args.cabinet.now in
    stop_ends (apply names)
    (world files (g.C.Cabinet.faults c.args.cabinet.now) (g.O.Sink.written c.args.out.now) (g.O.Sink.faults c.args.out.now) steps)
    (world (g.C.Cabinet.files c.open_application.new.cabinet) (g.C.Cabinet.faults c.open_application.new.cabinet) (g.O.Sink.written c.args.out.now) (g.O.Sink.faults c.args.out.now) steps)
    c.in-Err.stop c.of_stop.result c.of_stop.ensures
    (application_stopped names files _ _ c.in-Err.stop c.in-Err.ensures.stopped) (Keeps-refl (g.O.Sink.written c.args.out.now), refl)
