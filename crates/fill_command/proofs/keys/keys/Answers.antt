use Rattle.std.proofs.Common.{Err, ap, arith, inr, map, refl, take, ◌+◌, ◌∙◌, ◌≤◌}
use Rattle.std.proofs.KnownBytes.{Keeps-refl}
use Rattle.fill_open.specs.Command.{keys}
use Rattle.fill_open.specs.Keys.{keys_opens}
use Rattle.fill_command.specs.Output.{key_record, only}
use Rattle.fill_command.specs.Run.{world}
use Rattle.fill_command.proofs.Endings.{halt_ends, none_refused, stop_ends}
use Rattle.fill_command.proofs.Steps.{passed, stopped}
use Rattle.fill_command.proofs.keys.keys.Goals as goal

pub returns-in-Ok-write_keys-clause-ends : goal.returns-in-Ok-write_keys-clause-ends
returns-in-Ok-write_keys-clause-ends g c = λ steps.
    let file = c.args.file.now in
    let ready = c.in-Ok.ensures.ready in
    let written = rw c.as_slice.ensures at c.in-Ok-write_keys.ensures.whole in
    let few : steps ≤ steps + 0 = omega arith in
    let opens = passed (keys file) (keys_opens file) (λ held. refl) (λ held o is. is) (g.C.Cabinet.files c.args.cabinet.now) ready.0 ready.1 in
    (ready.0, opens, (only (map key_record c.in-Ok.keys), (c.in-Ok.keys, ready.2, refl), written, none_refused, few))

pub returns-in-Ok-clause-ends : goal.returns-in-Ok-clause-ends
returns-in-Ok-clause-ends g c = λ steps.
    let file = c.args.file.now in
    let files = g.C.Cabinet.files c.args.cabinet.now in
    let all = c.in-Ok.keys in
    let ready = c.in-Ok.ensures.ready in
    let few : steps ≤ steps + 0 = omega arith in
    halt_ends (keys file)
    (world files (g.C.Cabinet.faults c.args.cabinet.now) (g.O.Sink.written c.args.out.now) (g.O.Sink.faults c.args.out.now) steps)
    (world (g.C.Cabinet.files c.open_keys.new.cabinet) (g.C.Cabinet.faults c.open_keys.new.cabinet) (g.O.Sink.written c.write_keys.new.out) (g.O.Sink.faults c.write_keys.new.out) steps)
    ready.0 (passed (keys file) (keys_opens file) (λ held. refl) (λ held o is. is) files ready.0 ready.1) c.in-Err-write_keys.halt c.of_halt.result c.of_halt.ensures
    (λ f. let part = rw c.as_slice.ensures at (c.write_keys.ensures.part (c.in-Err-write_keys.is ∙ ap Err f)) in (only (map key_record (take part.0 all)), (all, ready.2, part.0, part.1, refl), part.2, few))
    (λ f. c.write_keys.ensures.fault (c.in-Err-write_keys.is ∙ ap Err f))
    (λ f. let first = rw c.as_slice.ensures at (c.write_keys.ensures.memory (c.in-Err-write_keys.is ∙ ap Err f)) in inr (only (map key_record (take first.0 all)), (all, ready.2, first.0, first.1, refl), first.2, few))

pub returns-clause-ends : goal.returns-clause-ends
returns-clause-ends g c = λ steps.
    let file = c.args.file.now in
    let files = g.C.Cabinet.files c.args.cabinet.now in
    stop_ends (keys file)
    (world files (g.C.Cabinet.faults c.args.cabinet.now) (g.O.Sink.written c.args.out.now) (g.O.Sink.faults c.args.out.now) steps)
    (world (g.C.Cabinet.files c.open_keys.new.cabinet) (g.C.Cabinet.faults c.open_keys.new.cabinet) (g.O.Sink.written c.args.out.now) (g.O.Sink.faults c.args.out.now) steps)
    c.in-Err.stop c.of_stop.result c.of_stop.ensures
    (stopped (keys file) (keys_opens file) (λ held. refl) (λ held o is. is) files _ _ c.in-Err.stop c.in-Err.ensures.stopped) (Keeps-refl (g.O.Sink.written c.args.out.now), refl)
