use Rattle.fill_engine.proofs.programs.run_program.Given as goal

abbrev pub ghosts-run_flashfill : goal.ghosts-run_flashfill
ghosts-run_flashfill a = record { name = a.blank.name; parts = a.blank.parts }
