use Rattle.std.proofs.Common.{arith, subst, sym}
use Rattle.std.specs.Prelude.{string_bytes}
use Rattle.fill_edge.specs.Outside.{Files}
use Rattle.fill_passes.specs.Files.{IsTold}
use Rattle.fillcsv_options.specs.Words.{data_of}
use Rattle.fillcsv_run.specs.Read.{IsScanned}
use Rattle.fillcsv_run.proofs.Scans.{file_opened, tables_stop_opening}
use Rattle.fillcsv_run.proofs.opening.open_sheet.Goals as goal

pub returns-in-Ok-open_tables-clause-opened : goal.returns-in-Ok-open_tables-clause-opened
returns-in-Ok-open_tables-clause-opened g c =
    let d = data_of c.args.asked.now in
    let files = g.C.Cabinet.files c.args.cabinet in
    let name = string_bytes c.args.asked.now.file in
    let there = rw c.as_str.ensures.value at c.in-Ok.ensures.there in
    let marked = rw c.as_str.ensures.value at c.in-Ok.ensures.marked in
    let passed = rw (c.scan_file-cabinet.ensures.files, c.in-Ok.ensures.files, c.as_slice.ensures.value) at c.in-Ok-open_tables.ensures.ready in
    file_opened d c.in-Ok.marked c.in-Ok-scanned.read files c.in-Ok-open_tables.tables (
      there,
      marked,
      λ bytes told mark.
          subst (λ s. IsScanned d bytes s) c.in-Ok-scanned.is
          (c.scan_file-cabinet.ensures.scanned bytes (subst (λ (f : Files). IsTold f name bytes) (sym c.in-Ok.ensures.files) told) mark),
    ) passed

pub returns-in-Err-open_tables-clause-stopped : goal.returns-in-Err-open_tables-clause-stopped
returns-in-Err-open_tables-clause-stopped g c =
    let d = data_of c.args.asked.now in
    let files = g.C.Cabinet.files c.args.cabinet in
    let name = string_bytes c.args.asked.now.file in
    let there = rw c.as_str.ensures.value at c.in-Ok.ensures.there in
    let marked = rw c.as_str.ensures.value at c.in-Ok.ensures.marked in
    let stopped = rw (c.scan_file-cabinet.ensures.files, c.in-Ok.ensures.files, c.as_slice.ensures.value) at c.in-Err-open_tables.ensures.stopped in
    tables_stop_opening d c.in-Ok.marked c.in-Ok-scanned.read files
    (g.C.Cabinet.faults c.args.cabinet) (g.C.Cabinet.faults c.scan_file-cabinet.result.0) (g.C.Cabinet.faults c.open_tables.new.cabinet)
    (λ n. let first = c.in-Ok.ensures.later n in let second = c.scan_file-cabinet.ensures.later n in omega (arith, first, second))
    c.in-Err-open_tables.stop (
      there,
      marked,
      λ bytes told mark.
          subst (λ s. IsScanned d bytes s) c.in-Ok-scanned.is
          (c.scan_file-cabinet.ensures.scanned bytes (subst (λ (f : Files). IsTold f name bytes) (sym c.in-Ok.ensures.files) told) mark),
    ) stopped
