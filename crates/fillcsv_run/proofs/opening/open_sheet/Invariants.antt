use Rattle.std.specs.Prelude.{string_bytes}
use Rattle.fillcsv_run.proofs.opening.open_sheet.Given as goal

abbrev pub ghosts-scan_file : goal.ghosts-scan_file
ghosts-scan_file g a = record {
  files = g.C.Cabinet.files a.cabinet;
  name = string_bytes a.asked.now.file;
  before = g.C.Cabinet.faults a.cabinet;
}
