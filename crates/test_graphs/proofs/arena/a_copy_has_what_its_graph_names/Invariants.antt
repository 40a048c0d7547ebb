use Rattle.test_graphs.proofs.arena.a_copy_has_what_its_graph_names.Given as goal

abbrev pub ghosts-sizes : goal.ghosts-sizes
ghosts-sizes a b = record { name = b.blank.name; parts = b.blank.parts }
