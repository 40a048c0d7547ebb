use Rattle.std.proofs.Common.{◌∙◌, Contains}
use Rattle.std.proofs.lemmas.List.Elements.{All-weaker}
use Rattle.std.proofs.lemmas.List.Sorted.{Contains-permutation}
use Rattle.fill_apply.specs.Saved.{columns_read}
use Rattle.fill_tree.specs.Switch.{switch_tree}
use Rattle.fill_open.specs.Apply.{named}
use Rattle.fill_open.proofs.Applies.{all_passed, report_stops, script_stops, sheet_stops, tables_stop}
use Rattle.fill_opening.proofs.Binds.{none_fell_both}
use Rattle.fill_open.proofs.apply.open_application.Goals as goal

pub returns-in-Err-clause-stopped : goal.returns-in-Err-clause-stopped
returns-in-Err-clause-stopped g c =
    script_stops (named c.args.session.now c.args.program.now c.args.sheet.now) (g.C.Cabinet.files c.args.cabinet.now) (g.C.Cabinet.faults c.args.cabinet.now)
    (g.C.Cabinet.faults c.open_script.new.cabinet) c.in-Err.stop c.in-Err.ensures.stopped

pub returns-in-Err-open_file-clause-stopped : goal.returns-in-Err-open_file-clause-stopped
returns-in-Err-open_file-clause-stopped g c =
    let names = named c.args.session.now c.args.program.now c.args.sheet.now in
    let stopped = rw c.open_script.ensures.files at c.in-Err-open_file.ensures.stopped in
    report_stops names (g.C.Cabinet.files c.args.cabinet.now) c.in-Ok.script (g.C.Cabinet.faults c.args.cabinet.now) (g.C.Cabinet.faults c.open_script.new.cabinet)
    (g.C.Cabinet.faults c.open_file.new.cabinet) c.in-Err-open_file.stop c.open_script.ensures.later c.in-Ok.ensures.ready stopped

pub returns-in-Err-open_sheet-clause-stopped : goal.returns-in-Err-open_sheet-clause-stopped
returns-in-Err-open_sheet-clause-stopped g c =
    let names = named c.args.session.now c.args.program.now c.args.sheet.now in
    let read = rw c.open_script.ensures.files at c.in-Ok-open_file.ensures.ready in
    let saved = rw c.as_slice.ensures at c.in-Ok-program_in.ensures.ready in
    let stopped = rw (c.open_file.ensures.files ∙ c.open_script.ensures.files) at c.in-Err-open_sheet.ensures.stopped in
    sheet_stops c.saved_programs_are_one.ensures names c.in-Ok.script c.in-Ok-open_file.bytes (switch_tree c.in-Ok-program_in.switch) saved (g.C.Cabinet.files c.args.cabinet.now)
    (g.C.Cabinet.faults c.args.cabinet.now) (g.C.Cabinet.faults c.open_file.new.cabinet) (g.C.Cabinet.faults c.open_sheet.new.cabinet) c.in-Err-open_sheet.stop
    (none_fell_both (g.C.Cabinet.faults c.args.cabinet.now) (g.C.Cabinet.faults c.open_script.new.cabinet) (g.C.Cabinet.faults c.open_file.new.cabinet) c.open_script.ensures.later c.open_file.ensures.later)
    c.in-Ok.ensures.ready read stopped

pub returns-in-Err-open_tables-clause-stopped : goal.returns-in-Err-open_tables-clause-stopped
returns-in-Err-open_tables-clause-stopped g c =
    let names = named c.args.session.now c.args.program.now c.args.sheet.now in
    let files = c.open_sheet.ensures.files ∙ c.open_file.ensures.files ∙ c.open_script.ensures.files in
    let read = rw c.open_script.ensures.files at c.in-Ok-open_file.ensures.ready in
    let saved = rw c.as_slice.ensures at c.in-Ok-program_in.ensures.ready in
    let rows = rw (c.open_file.ensures.files ∙ c.open_script.ensures.files) at c.in-Ok-open_sheet.ensures.ready in
    let stopped = rw (files, c.as_slice-2.ensures) at c.in-Err-open_tables.ensures.stopped in
    tables_stop c.saved_programs_are_one.ensures names c.in-Ok.script c.in-Ok-open_file.bytes (switch_tree c.in-Ok-program_in.switch) saved c.in-Ok-open_sheet.sheet
    (g.C.Cabinet.files c.args.cabinet.now) (g.C.Cabinet.faults c.args.cabinet.now) (g.C.Cabinet.faults c.open_file.new.cabinet) (g.C.Cabinet.faults c.open_sheet.new.cabinet)
    (g.C.Cabinet.faults c.open_tables.new.cabinet) c.in-Err-open_tables.stop
    (none_fell_both (g.C.Cabinet.faults c.args.cabinet.now) (g.C.Cabinet.faults c.open_script.new.cabinet) (g.C.Cabinet.faults c.open_file.new.cabinet) c.open_script.ensures.later c.open_file.ensures.later)
    c.open_sheet.ensures.later c.in-Ok.ensures.ready read rows stopped

pub returns-clause-ready : goal.returns-clause-ready
returns-clause-ready g c =
    let names = named c.args.session.now c.args.program.now c.args.sheet.now in
    let files = c.open_sheet.ensures.files ∙ c.open_file.ensures.files ∙ c.open_script.ensures.files in
    let read = rw c.open_script.ensures.files at c.in-Ok-open_file.ensures.ready in
    let saved = rw c.as_slice.ensures at c.in-Ok-program_in.ensures.ready in
    let rows = rw (c.open_file.ensures.files ∙ c.open_script.ensures.files) at c.in-Ok-open_sheet.ensures.ready in
    let tables = rw (files, c.as_slice-2.ensures) at c.in-Ok-open_tables.ensures.ready in
    all_passed c.saved_programs_are_one.ensures names c.in-Ok.script c.in-Ok-open_file.bytes (switch_tree c.in-Ok-program_in.switch) saved c.in-Ok-open_sheet.sheet
    (g.C.Cabinet.files c.args.cabinet.now) c.in-Ok-open_tables.tables c.in-Ok.ensures.ready read rows tables

pub returns-clause-reads : goal.returns-clause-reads
returns-clause-reads g c =
    let s = switch_tree c.in-Ok-program_in.switch in
    let script = c.in-Ok.script in
    let rows = c.in-Ok-open_sheet.sheet in
    All-weaker (Contains script.inputs) (Contains rows.inputs) (λ x h. Contains-permutation script.inputs rows.inputs x c.in-Ok-open_sheet.ensures.inputs h) (columns_read s.cases) c.in-Ok-program_in.ensures.reads
