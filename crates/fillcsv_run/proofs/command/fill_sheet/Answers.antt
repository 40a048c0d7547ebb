use Rattle.std.proofs.Common.{◌≡◌, ◌∙◌, ℕ, List, Bool, arith, inl, inr, string_bytes, subst}
use Rattle.fill_edge.specs.Outside.{Rose}
use Rattle.fillcsv_options.specs.Words.{data_of}
use Rattle.fillcsv_run.specs.Asking.{SaysAfter, heard}
use Rattle.fillcsv_run.specs.Filling.{FailsDesk}
use Rattle.fillcsv_run.proofs.Endings.{ends_wider}
use Rattle.fillcsv_run.proofs.Cases.{if_err, if_ok, is_ok}
use Rattle.fillcsv_run.proofs.Pages.{desk_ends, desk_fills, fails_fault, fails_status, none_few, none_many, rose_earlier, says_after}
use Rattle.fillcsv_run.proofs.Tolds.{told_ends, told_said}
use Rattle.fillcsv_run.proofs.command.fill_sheet.Goals as goal

pub returns-in-Err-clause-ends : goal.returns-in-Err-clause-ends
returns-in-Err-clause-ends g c = ends_wider (data_of c.args.asked.now) _ _ _ _ _ _ _ _ ⊥ _ _ c.in-Err.status (λ never. absurd never) (if_err _ c.open_desk-cabinet.result.1 c.in-Err.status c.in-Err.is c.open_desk-cabinet.ensures.fails _ _ _)

pub returns-in-Ok-told-clause-ends : goal.returns-in-Ok-told-clause-ends
returns-in-Ok-told-clause-ends g c =
    let asked = data_of c.args.asked.now in
    let files = g.C.Cabinet.files c.args.folder.cabinet in
    let opened = if_ok _ c.open_desk-cabinet.result.1 c.in-Ok.desk c.in-Ok.is c.open_desk-cabinet.ensures.opened in
    let same : c.open_desk-cabinet.new.err ≡ c.args.err.now = c.open_desk-cabinet.ensures.silent (is_ok c.open_desk-cabinet.result.1 c.in-Ok.desk c.in-Ok.is) in
    let whole = is_ok c.fill-cabinet.result.1 c.in-Ok-told.told c.in-Ok-told.is in
    let page = rw c.open_desk-cabinet.ensures.files at (if_ok _ c.fill-cabinet.result.1 c.in-Ok-told.told c.in-Ok-told.is c.fill-cabinet.ensures.filled) in
    told_ends asked files _ _ _ _ _ c.in-Ok-told.told _ _ _ _ c.end-status.result (desk_fills asked files c.in-Ok.desk _ _ _ c.in-Ok-told.told opened page)
    (told_said asked c.in-Ok-told.told c.end-status.result _ _ _ _
    (λ line says. says_after g.E.Sink.written g.E.Sink.faults asked.ask c.args.err.now c.fill-cabinet.new.err c.end-status.new.err line (λ e. c.fill-cabinet.ensures.silent whole (opened.1 ∙ e) ∙ same)
    (rw same at (c.fill-cabinet.ensures.grew whole)) says)
    c.end-status.ensures.ends)

pub returns-in-Err-told-clause-ends : goal.returns-in-Err-told-clause-ends
returns-in-Err-told-clause-ends g c =
    let asked = data_of c.args.asked.now in
    let files = g.C.Cabinet.files c.args.folder.cabinet in
    let file = string_bytes c.in-Ok.desk.file in
    let unwritten = Rose (g.O.Sink.faults c.args.out.now) (g.O.Sink.faults c.fill-cabinet.new.out) in
    let failed = Rose (g.C.Cabinet.faults c.open_desk-cabinet.result.0 file) (g.C.Cabinet.faults c.fill-cabinet.result.0 file) in
    let input = heard (g.S.Source.left c.args.input.now) (g.S.Source.faults c.args.input.now) (g.S.Source.faults c.fill-cabinet.new.input) in
    let old = g.O.Sink.written c.args.out.now in
    let new = g.O.Sink.written c.fill-cabinet.new.out in
    let opened = if_ok _ c.open_desk-cabinet.result.1 c.in-Ok.desk c.in-Ok.is c.open_desk-cabinet.ensures.opened in
    let same : c.open_desk-cabinet.new.err ≡ c.args.err.now = c.open_desk-cabinet.ensures.silent (is_ok c.open_desk-cabinet.result.1 c.in-Ok.desk c.in-Ok.is) in
    let fails = rw (c.open_desk-cabinet.ensures.files, same) at (if_err _ c.fill-cabinet.result.1 c.in-Err-told.status c.in-Err-told.is c.fill-cabinet.ensures.fails) in
    desk_ends asked files c.in-Ok.desk _ _ (g.C.Cabinet.faults c.open_desk-cabinet.result.0) (g.C.Cabinet.faults c.fill-cabinet.result.0) _ _ _ _ _ opened c.open_desk-cabinet.ensures.later c.in-Err-told.status
    (subst (λ (ask : Bool). FailsDesk c.in-Err-told.status files c.in-Ok.desk unwritten failed input old new (SaysAfter ask (g.E.Sink.written c.args.err.now) (g.E.Sink.written c.fill-cabinet.new.err) (g.E.Sink.faults c.args.err.now) (g.E.Sink.faults c.fill-cabinet.new.err))) opened.1 fails)

pub returns-in-Err-clause-silent : goal.returns-in-Err-clause-silent
returns-in-Err-clause-silent g c = λ quiet few.
    let late = if_err _ c.open_desk-cabinet.result.1 c.in-Err.status c.in-Err.is c.open_desk-cabinet.ensures.statuses in
    absurd (omega (arith, few, late.0))

pub returns-in-Err-clause-fault : goal.returns-in-Err-clause-fault
returns-in-Err-clause-fault g c = λ four.
    let late = if_err _ c.open_desk-cabinet.result.1 c.in-Err.status c.in-Err.is c.open_desk-cabinet.ensures.statuses in
    absurd (late.2 four)

pub returns-in-Err-clause-statuses : goal.returns-in-Err-clause-statuses
returns-in-Err-clause-statuses g c =
    let late = if_err _ c.open_desk-cabinet.result.1 c.in-Err.status c.in-Err.is c.open_desk-cabinet.ensures.statuses in
    late.1

pub returns-in-Ok-told-clause-silent : goal.returns-in-Ok-told-clause-silent
returns-in-Ok-told-clause-silent g c = λ quiet few.
    let opened = if_ok _ c.open_desk-cabinet.result.1 c.in-Ok.desk c.in-Ok.is c.open_desk-cabinet.ensures.opened in
    let same : c.open_desk-cabinet.new.err ≡ c.args.err.now = c.open_desk-cabinet.ensures.silent (is_ok c.open_desk-cabinet.result.1 c.in-Ok.desk c.in-Ok.is) in
    let whole = is_ok c.fill-cabinet.result.1 c.in-Ok-told.told c.in-Ok-told.is in
    c.end-status.ensures.silent quiet few ∙ c.fill-cabinet.ensures.silent whole (opened.1 ∙ c.requires.loud quiet) ∙ same

pub returns-in-Ok-told-clause-fault : goal.returns-in-Ok-told-clause-fault
returns-in-Ok-told-clause-fault g c = λ four. inr (inl (c.end-status.ensures.ends.part four).4)

pub returns-in-Ok-told-clause-statuses : goal.returns-in-Ok-told-clause-statuses
returns-in-Ok-told-clause-statuses g c = elim c.end-status.ensures.ends.statuses [
  | inl few ↦ omega (arith, few)
  | inr more ↦ none_many c.end-status.result more
]

pub returns-in-Err-told-clause-silent : goal.returns-in-Err-told-clause-silent
returns-in-Err-told-clause-silent g c = λ quiet few.
    let file = string_bytes c.in-Ok.desk.file in
    let files = g.C.Cabinet.files c.open_desk-cabinet.result.0 in
    let unwritten = Rose (g.O.Sink.faults c.args.out.now) (g.O.Sink.faults c.fill-cabinet.new.out) in
    let failed = Rose (g.C.Cabinet.faults c.open_desk-cabinet.result.0 file) (g.C.Cabinet.faults c.fill-cabinet.result.0 file) in
    let input = heard (g.S.Source.left c.args.input.now) (g.S.Source.faults c.args.input.now) (g.S.Source.faults c.fill-cabinet.new.input) in
    let old = g.O.Sink.written c.args.out.now in
    let new = g.O.Sink.written c.fill-cabinet.new.out in
    let said = SaysAfter c.in-Ok.desk.ask (g.E.Sink.written c.open_desk-cabinet.new.err) (g.E.Sink.written c.fill-cabinet.new.err) (g.E.Sink.faults c.open_desk-cabinet.new.err) (g.E.Sink.faults c.fill-cabinet.new.err) in
    let fails = if_err _ c.fill-cabinet.result.1 c.in-Err-told.status c.in-Err-told.is c.fill-cabinet.ensures.fails in
    absurd (none_few c.in-Err-told.status (fails_status c.in-Err-told.status files c.in-Ok.desk unwritten failed input old new said fails) few)

pub returns-in-Err-told-clause-fault : goal.returns-in-Err-told-clause-fault
returns-in-Err-told-clause-fault g c = λ four.
    let opened = if_ok _ c.open_desk-cabinet.result.1 c.in-Ok.desk c.in-Ok.is c.open_desk-cabinet.ensures.opened in
    let file = string_bytes c.in-Ok.desk.file in
    let files = g.C.Cabinet.files c.open_desk-cabinet.result.0 in
    let unwritten = Rose (g.O.Sink.faults c.args.out.now) (g.O.Sink.faults c.fill-cabinet.new.out) in
    let failed = Rose (g.C.Cabinet.faults c.open_desk-cabinet.result.0 file) (g.C.Cabinet.faults c.fill-cabinet.result.0 file) in
    let input = heard (g.S.Source.left c.args.input.now) (g.S.Source.faults c.args.input.now) (g.S.Source.faults c.fill-cabinet.new.input) in
    let old = g.O.Sink.written c.args.out.now in
    let new = g.O.Sink.written c.fill-cabinet.new.out in
    let said = SaysAfter c.in-Ok.desk.ask (g.E.Sink.written c.open_desk-cabinet.new.err) (g.E.Sink.written c.fill-cabinet.new.err) (g.E.Sink.faults c.open_desk-cabinet.new.err) (g.E.Sink.faults c.fill-cabinet.new.err) in
    let fails = if_err _ c.fill-cabinet.result.1 c.in-Err-told.status c.in-Err-told.is c.fill-cabinet.ensures.fails in
    elim (fails_fault c.in-Err-told.status files c.in-Ok.desk unwritten failed input old new said fails four) [
      | inl wrote ↦ inl wrote
      | inr read ↦ inr (inr (subst (λ (name : List ℕ). Rose (g.C.Cabinet.faults c.args.folder.cabinet name) (g.C.Cabinet.faults c.fill-cabinet.result.0 name)) opened.0 (rose_earlier _ _ _ (c.open_desk-cabinet.ensures.later _) read)))
    ]

pub returns-in-Err-told-clause-statuses : goal.returns-in-Err-told-clause-statuses
returns-in-Err-told-clause-statuses g c =
    let file = string_bytes c.in-Ok.desk.file in
    let files = g.C.Cabinet.files c.open_desk-cabinet.result.0 in
    let unwritten = Rose (g.O.Sink.faults c.args.out.now) (g.O.Sink.faults c.fill-cabinet.new.out) in
    let failed = Rose (g.C.Cabinet.faults c.open_desk-cabinet.result.0 file) (g.C.Cabinet.faults c.fill-cabinet.result.0 file) in
    let input = heard (g.S.Source.left c.args.input.now) (g.S.Source.faults c.args.input.now) (g.S.Source.faults c.fill-cabinet.new.input) in
    let old = g.O.Sink.written c.args.out.now in
    let new = g.O.Sink.written c.fill-cabinet.new.out in
    let said = SaysAfter c.in-Ok.desk.ask (g.E.Sink.written c.open_desk-cabinet.new.err) (g.E.Sink.written c.fill-cabinet.new.err) (g.E.Sink.faults c.open_desk-cabinet.new.err) (g.E.Sink.faults c.fill-cabinet.new.err) in
    let fails = if_err _ c.fill-cabinet.result.1 c.in-Err-told.status c.in-Err-told.is c.fill-cabinet.ensures.fails in
    none_many c.in-Err-told.status (fails_status c.in-Err-told.status files c.in-Ok.desk unwritten failed input old new said fails)
