use Rattle.test_graphs.proofs.arena.programs_stand_in_a_graph.Given as goal

abbrev pub ghosts-read : goal.ghosts-read
ghosts-read a b = record { name = b.blank.name; parts = b.blank.parts }
