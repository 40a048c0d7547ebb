use Rattle.std.proofs.Common.{◌∙◌}
use Rattle.fill_open.proofs.Replays.{sheet_stops, tables_stop}
use Rattle.fill_open.proofs.session.open_replay.Goals as goal

pub returns-in-Err-open_sheet-clause-stopped : goal.returns-in-Err-open_sheet-clause-stopped
returns-in-Err-open_sheet-clause-stopped g c =
    let stopped = rw (c.open_script.ensures.files, c.as_str-name.ensures.spelled) at c.in-Err-open_sheet.ensures.stopped in
    sheet_stops (g.C.Cabinet.files c.args.cabinet.now) c.args.session.now c.in-Ok.script c.in-Ok.ensures.ready _ _ _ c.open_script.ensures.later c.in-Err-open_sheet.stop stopped

pub returns-in-Err-open_tables-clause-stopped : goal.returns-in-Err-open_tables-clause-stopped
returns-in-Err-open_tables-clause-stopped g c =
    let files = c.open_sheet.ensures.files ∙ c.open_script.ensures.files in
    let stopped = rw (files, c.as_slice.ensures) at c.in-Err-open_tables.ensures.stopped in
    let read = rw (c.open_script.ensures.files, c.as_str-name.ensures.spelled) at c.in-Ok-open_sheet.ensures.ready in
    tables_stop (g.C.Cabinet.files c.args.cabinet.now) c.args.session.now c.in-Ok.script c.in-Ok.ensures.ready c.in-Ok-open_sheet.sheet read
    _ _ _ _ c.open_script.ensures.later c.open_sheet.ensures.later c.in-Err-open_tables.stop stopped
