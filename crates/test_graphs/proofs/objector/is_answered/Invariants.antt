use Rattle.test_graphs.proofs.objector.is_answered.Given as goal

abbrev pub ghosts-objects : goal.ghosts-objects
ghosts-objects a = record { name = a.blank.name; parts = a.blank.parts }
