use Rattle.std.proofs.Common.{ℕ, Option, Some, ◌≡◌, ◌⊎◌, refl, subst, sym}
use Rattle.std.specs.Prelude.{map, string_bytes}
use Rattle.std.proofs.KnownBytes.{Keeps-refl}
use Rattle.fill_open.specs.Command.{CommandData, command_data, command_in, made}
use Rattle.fill_open.specs.MadeReady.{made_ready}
use Rattle.fill_command.specs.Run.{Gives, IsOfSession, RunEnds, world}
use Rattle.fill_command.specs.declared.ending.Ending.TheVariants as ending
use Rattle.fill_command.proofs.Endings.{ends_give, made_ends}
use Rattle.fill_command.proofs.command.run.Goals as goal

pub returns-in_default-clause-ends : goal.returns-in_default-clause-ends
returns-in_default-clause-ends g c =
    let a = world (g.C.Cabinet.files c.args.cabinet.now) (g.C.Cabinet.faults c.args.cabinet.now) (g.O.Sink.written c.args.out.now) (g.O.Sink.faults c.args.out.now) c.args.steps.now in
    (ending.NoCommand, c.tell.ensures.status, c.tell.ensures.said, subst (λ (o : Option CommandData). RunEnds o a a ending.NoCommand) c.in_default.ensures.is (refl, (Keeps-refl a.out, refl)))

pub returns-clause-ends : goal.returns-clause-ends
returns-clause-ends g c =
    let a = world (g.C.Cabinet.files c.args.cabinet.now) (g.C.Cabinet.faults c.args.cabinet.now) (g.O.Sink.written c.args.out.now) (g.O.Sink.faults c.args.out.now) c.args.steps.now in
    let b = world (g.C.Cabinet.files c.run_command.new.cabinet) (g.C.Cabinet.faults c.run_command.new.cabinet) (g.O.Sink.written c.run_command.new.out) (g.O.Sink.faults c.run_command.new.out) c.run_command.new.steps in
    (c.run_command.result, c.tell-2.ensures.status, c.tell-2.ensures.said, subst (λ (o : Option CommandData). RunEnds o a b c.run_command.result) c.in-Some.ensures.is c.run_command.ensures.ends)

pub returns-clause-gives : goal.returns-clause-gives
returns-clause-gives g c =
    let a = world (g.C.Cabinet.files c.args.cabinet.now) (g.C.Cabinet.faults c.args.cabinet.now) (g.O.Sink.written c.args.out.now) (g.O.Sink.faults c.args.out.now) c.args.steps.now in
    let b = world (g.C.Cabinet.files c.run_command.new.cabinet) (g.C.Cabinet.faults c.run_command.new.cabinet) (g.O.Sink.written c.run_command.new.out) (g.O.Sink.faults c.run_command.new.out) c.run_command.new.steps in
    let command = command_data c.in-Some.command in
    let gives = ends_give c.saved_programs_are_one.ensures command a b c.run_command.result c.run_command.ensures.ends in
    subst (λ (o : Option CommandData). Gives o a.files c.tell-2.result) c.in-Some.ensures.is (subst (λ (r : ℕ). Gives (Some command) a.files r) (sym c.tell-2.ensures.status) gives)

pub returns-clause-generated : goal.returns-clause-generated
returns-clause-generated g c = λ n of.
    let a = world (g.C.Cabinet.files c.args.cabinet.now) (g.C.Cabinet.faults c.args.cabinet.now) (g.O.Sink.written c.args.out.now) (g.O.Sink.faults c.args.out.now) c.args.steps.now in
    let b = world (g.C.Cabinet.files c.run_command.new.cabinet) (g.C.Cabinet.faults c.run_command.new.cabinet) (g.O.Sink.written c.run_command.new.out) (g.O.Sink.faults c.run_command.new.out) c.run_command.new.steps in
    let words = map string_bytes c.args.words.now in
    let is : Some (command_data c.in-Some.command) ≡ command_in words = c.in-Some.ensures.is in
    let same : command_data c.in-Some.command ≡ made n = cc in
    let ends = rw same at c.run_command.ensures.ends in
    (rw (sym c.tell-2.ensures.status) at (made_ends n (made_ready n) (c.generated_session_opens.ensures words n of) a b c.run_command.result ends), c.run_command.ensures.generated n same)

pub returns-clause-steps : goal.returns-clause-steps
returns-clause-steps g c = subst (λ (o : Option CommandData). IsOfSession o ⊎ (c.run_command.new.steps ≡ c.args.steps.now)) c.in-Some.ensures.is c.run_command.ensures.steps
