use Rattle.std.proofs.Common.{◌≡◌, ◌∙◌, Result, Err, ap, string_bytes, subst}
use Rattle.fill_edge.specs.Outside.{Rose}
use Rattle.fillcsv_run.specs.Asking.{SaysAfter, heard}
use Rattle.fillcsv_run.specs.Filling.{EndsDesk, OfPage}
use Rattle.fillcsv_run.specs.Said.{Says}
use Rattle.fillcsv_run.specs.declared.fill.Unfilled.{Unfilled}
use Rattle.fillcsv_run.specs.declared.told.Told.{Told}
use Rattle.fillcsv_run.proofs.Pages.{desk_fails, says_after}
use Rattle.fillcsv_run.proofs.fill.fill.Goals as goal

pub returns-in-Ok-clause-filled : goal.returns-in-Ok-clause-filled
returns-in-Ok-clause-filled g c =
    subst (λ (r : Result Told Unfilled). OfPage (g.C.Cabinet.files c.args.cabinet) c.args.desk (λ p. EndsDesk c.args.desk.ask p
    (heard (g.S.Source.left c.args.input.now) (g.S.Source.faults c.args.input.now) (g.S.Source.faults c.fill_desk-cabinet.new.input))
    (g.O.Sink.written c.args.out.now) (g.O.Sink.written c.fill_desk-cabinet.new.out) r)) c.in-Ok.is c.fill_desk-cabinet.ensures.ends

pub returns-clause-fails : goal.returns-clause-fails
returns-clause-fails g c =
    let file = string_bytes c.args.desk.file in
    let named : c.as_str.result.now ≡ file = c.as_str.ensures.value ∙ ap string_bytes c.fill_desk-cabinet.ensures.file in
    let ends = subst (λ (r : Result Told Unfilled). OfPage (g.C.Cabinet.files c.args.cabinet) c.args.desk (λ p. EndsDesk c.args.desk.ask p
    (heard (g.S.Source.left c.args.input.now) (g.S.Source.faults c.args.input.now) (g.S.Source.faults c.fill_desk-cabinet.new.input))
    (g.O.Sink.written c.args.out.now) (g.O.Sink.written c.fill_desk-cabinet.new.out) r)) c.in-Err.is c.fill_desk-cabinet.ensures.ends in
    desk_fails (g.C.Cabinet.files c.args.cabinet) c.args.desk (Rose (g.O.Sink.faults c.args.out.now) (g.O.Sink.faults c.fill_desk-cabinet.new.out)) (Rose (g.C.Cabinet.faults c.args.cabinet file) (g.C.Cabinet.faults c.fill_desk-cabinet.result.0 file)) _ _ _ c.tell_unfilled.result
    (Says (g.E.Sink.written c.fill_desk-cabinet.new.err) (g.E.Sink.written c.tell_unfilled.new.err) (g.E.Sink.faults c.fill_desk-cabinet.new.err) (g.E.Sink.faults c.tell_unfilled.new.err))
    (SaysAfter c.args.desk.ask (g.E.Sink.written c.args.err.now) (g.E.Sink.written c.tell_unfilled.new.err) (g.E.Sink.faults c.args.err.now) (g.E.Sink.faults c.tell_unfilled.new.err))
    (λ line. says_after g.E.Sink.written g.E.Sink.faults c.args.desk.ask c.args.err.now c.fill_desk-cabinet.new.err c.tell_unfilled.new.err line c.fill_desk-cabinet.ensures.silent c.fill_desk-cabinet.ensures.grew)
    c.in-Err.why (λ same. c.fill_desk-cabinet.ensures.fault (c.in-Err.is ∙ ap Err same)) (λ same. c.fill_desk-cabinet.ensures.unread (c.in-Err.is ∙ ap Err same)) ends (rw named at c.tell_unfilled.ensures)
