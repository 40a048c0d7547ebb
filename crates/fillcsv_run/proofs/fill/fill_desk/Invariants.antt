use Rattle.std.specs.Prelude.{string_bytes}
use Rattle.fillcsv_run.proofs.fill.fill_desk.Given as goal

-- the file of the sheet on the desk, among the files of the cabinet as it stands after the questions
abbrev pub ghosts-write_desk : goal.ghosts-write_desk
ghosts-write_desk g a = record { files = g.C.Cabinet.files a.cabinet; name = string_bytes a.desk.now.file; before = g.C.Cabinet.faults a.cabinet }
