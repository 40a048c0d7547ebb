use Rattle.std.proofs.Common.{inl, refl}
use Rattle.std.proofs.KnownBytes.{Keeps-refl}
use Rattle.fillcsv_filling.specs.Long.{long_of}
use Rattle.fillcsv_filling.specs.declared.sheet.LongSheet.{LongSheet}
use Rattle.fillcsv_run.proofs.Desks.{IsOn, is_long, is_set, page_ends}
use Rattle.fillcsv_run.proofs.fill.write_desk.Goals as goal

pub write_sheet-pass-requires-clause-set : goal.write_sheet-pass-requires-clause-set
write_sheet-pass-requires-clause-set g c =
    let d = c.args.desk.now in
    let sheet : LongSheet = record { header = d.header; inputs = c.deref.result; output = d.output; typed = c.as_slice.result; settings = d.settings; form = d.form; head = c.as_slice-2.result } in
    let on : IsOn d sheet = record { header = refl; inputs = c.deref.ensures.value; output = refl; typed = c.as_slice.ensures; settings = refl; form = refl; head = c.as_slice-2.ensures } in
    is_set d sheet on c.requires.laid

pub returns-in-Err-clause-ends : goal.returns-in-Err-clause-ends
returns-in-Err-clause-ends g c = λ bytes told ready. inl (Keeps-refl (g.O.Sink.written c.args.out.now))

pub returns-clause-ends : goal.returns-clause-ends
returns-clause-ends g c = λ bytes told ready.
    let d = c.args.desk.now in
    let sheet : LongSheet = record { header = d.header; inputs = c.deref.result; output = d.output; typed = c.as_slice.result; settings = d.settings; form = d.form; head = c.as_slice-2.result } in
    let on : IsOn d sheet = record { header = refl; inputs = c.deref.ensures.value; output = refl; typed = c.as_slice.ensures; settings = refl; form = refl; head = c.as_slice-2.ensures } in
    page_ends d sheet on _ _ bytes c.replace-tables.result c.take-saving.result c.told_after-told.result c.replace-tables.ensures.value c.take-saving.ensures.value
    (c.told_after-told.ensures.ends _ _ (long_of bytes sheet) c.replace-tables.result (c.write_sheet-pass.ensures.ends bytes told (is_long d sheet on bytes ready)))
