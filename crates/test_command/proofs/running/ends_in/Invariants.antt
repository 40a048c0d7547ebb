use Rattle.test_command.proofs.running.ends_in.Given as goal

abbrev pub ghosts-status : goal.ghosts-status
ghosts-status a = record { name = a.blank.name; parts = a.blank.parts }
