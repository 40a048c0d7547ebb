use Rattle.test_spaces.proofs.doubt.is_flagged.Given as goal

abbrev pub ghosts-graph_of : goal.ghosts-graph_of
ghosts-graph_of a = record { name = a.blank.name; parts = a.blank.parts }
