use Rattle.fillcsv_run.proofs.command.fill_sheet.Given as goal

abbrev pub ghosts-fill : goal.ghosts-fill
ghosts-fill g a = record { name = a.blank.name; parts = a.blank.parts }
