use Rattle.fill_edge.proofs.tests.steps_are_counted.Given as goal

abbrev pub ghosts-take_two_steps : goal.ghosts-take_two_steps
ghosts-take_two_steps a = record { name = a.blank.name; parts = a.blank.parts }
