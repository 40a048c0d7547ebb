use Rattle.std.proofs.Common.{◌∙◌, ℕ, List, Result, Ok, Err, ap, inl, string_bytes, subst, sym}
use Rattle.std.proofs.KnownBytes.{Keeps-refl}
use Rattle.fill_edge.specs.Outside.{Rose}
use Rattle.fill_output.specs.declared.halt.Halt.{Halt}
use Rattle.fillcsv_run.specs.Asking.{heard}
use Rattle.fillcsv_run.specs.Filling.{EndsDesk, EndsPage}
use Rattle.fillcsv_run.specs.Read.{page_data}
use Rattle.fillcsv_run.specs.declared.fill.Unfilled.{Unfilled}
use Rattle.fillcsv_run.specs.declared.fill.Unfilled.TheVariants as unfilled
use Rattle.fillcsv_run.specs.declared.told.Told.{Told}
use Rattle.fillcsv_run.proofs.Pages.{asked_ends, halted_after, of_each, rose_earlier, same_reason, there_same, told_same, unread_failed, unwritten_halt}
use Rattle.fillcsv_run.proofs.fill.fill_desk.Goals as goal

pub write_desk-cabinet-requires-clause-there : goal.write_desk-cabinet-requires-clause-there
write_desk-cabinet-requires-clause-there g c =
    there_same _ _ _ _ _ c.ask_about.ensures.files (ap string_bytes c.ask_about.ensures.same.0) c.requires.there

pub returns-in-Err-Unread-clause-ends : goal.returns-in-Err-Unread-clause-ends
returns-in-Err-Unread-clause-ends g c = of_each (g.C.Cabinet.files c.args.cabinet) c.args.desk.now
    (λ p. EndsDesk c.args.desk.now.ask p (heard (g.S.Source.left c.args.input.now) (g.S.Source.faults c.args.input.now) (g.S.Source.faults c.ask_about.new.input)) (g.O.Sink.written c.args.out.now) (g.O.Sink.written c.args.out.now) (Err unfilled.Unread))
    (λ p. inl (Keeps-refl (g.O.Sink.written c.args.out.now)))

pub returns-in-Err-NoMemory-clause-ends : goal.returns-in-Err-NoMemory-clause-ends
returns-in-Err-NoMemory-clause-ends g c = of_each (g.C.Cabinet.files c.args.cabinet) c.args.desk.now
    (λ p. EndsDesk c.args.desk.now.ask p (heard (g.S.Source.left c.args.input.now) (g.S.Source.faults c.args.input.now) (g.S.Source.faults c.ask_about.new.input)) (g.O.Sink.written c.args.out.now) (g.O.Sink.written c.args.out.now) (Err unfilled.NoMemory))
    (λ p. inl (Keeps-refl (g.O.Sink.written c.args.out.now)))

pub returns-in-Ok-done-clause-ends : goal.returns-in-Ok-done-clause-ends
returns-in-Ok-done-clause-ends g c =
    asked_ends (g.C.Cabinet.files c.args.cabinet) c.args.desk.now c.ask_about.new.self _ _ _ (Ok c.in-Ok-done.told) (Ok c.in-Ok-done.told)
    (λ p are w. (c.ask_about.new.self.typed, are, w)) c.requires.there c.in-Ok.ensures.asked
    (λ bytes told ready. subst (λ (r : Result Told Halt). EndsPage (g.O.Sink.written c.args.out.now) (g.O.Sink.written c.write_desk-cabinet.new.out) (page_data bytes c.ask_about.new.self) r) c.in-Ok-done.is
    (c.write_desk-cabinet.ensures.ends bytes (told_same _ _ _ _ bytes c.ask_about.ensures.files (ap string_bytes c.ask_about.ensures.same.0) told) ready))

pub returns-in-Err-clause-ends : goal.returns-in-Err-clause-ends
returns-in-Err-clause-ends g c =
    asked_ends (g.C.Cabinet.files c.args.cabinet) c.args.desk.now c.ask_about.new.self _ _ _ (Err c.in-Err.halt) (Err c.unfilled_by.result)
    (λ p are w. subst (λ (why : Unfilled). EndsDesk c.args.desk.now.ask p (heard (g.S.Source.left c.args.input.now) (g.S.Source.faults c.args.input.now) (g.S.Source.faults c.ask_about.new.input)) (g.O.Sink.written c.args.out.now) (g.O.Sink.written c.write_desk-cabinet.new.out) (Err why)) (sym c.unfilled_by.ensures) (halted_after c.args.desk.now.ask p (heard (g.S.Source.left c.args.input.now) (g.S.Source.faults c.args.input.now) (g.S.Source.faults c.ask_about.new.input)) c.ask_about.new.self.typed (g.O.Sink.written c.args.out.now) (g.O.Sink.written c.write_desk-cabinet.new.out) are c.in-Err.halt c.write_desk-cabinet.result.1 w))
    c.requires.there c.in-Ok.ensures.asked
    (λ bytes told ready. subst (λ (r : Result Told Halt). EndsPage (g.O.Sink.written c.args.out.now) (g.O.Sink.written c.write_desk-cabinet.new.out) (page_data bytes c.ask_about.new.self) r) c.in-Err.is
    (c.write_desk-cabinet.ensures.ends bytes (told_same _ _ _ _ bytes c.ask_about.ensures.files (ap string_bytes c.ask_about.ensures.same.0) told) ready))

pub returns-in-Err-clause-fault : goal.returns-in-Err-clause-fault
returns-in-Err-clause-fault g c = λ e.
    c.write_desk-cabinet.ensures.fault (c.in-Err.is ∙ ap Err (unwritten_halt c.in-Err.halt c.write_desk-cabinet.result.1 (sym c.unfilled_by.ensures ∙ same_reason _ _ e)))

pub returns-in-Err-clause-unread : goal.returns-in-Err-clause-unread
returns-in-Err-clause-unread g c = λ e.
    let file = string_bytes c.args.desk.now.file in
    let failed = unread_failed c.in-Err.halt c.write_desk-cabinet.result.1 (sym c.unfilled_by.ensures ∙ same_reason _ _ e) in
    let named = ap string_bytes c.ask_about.ensures.same.0 in
    rose_earlier _ _ _ (c.ask_about.ensures.later file)
    (subst (λ (n : List ℕ). Rose (g.C.Cabinet.faults c.ask_about.new.cabinet n) (g.C.Cabinet.faults c.write_desk-cabinet.result.0 n)) named (c.write_desk-cabinet.ensures.failed failed))
