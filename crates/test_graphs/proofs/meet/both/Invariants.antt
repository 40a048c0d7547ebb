use Rattle.test_graphs.proofs.meet.both.Given as goal

abbrev pub ghosts-met : goal.ghosts-met
ghosts-met a = record { name = a.blank.name; parts = a.blank.parts }
