use Rattle.test_graphs.proofs.learn.learns_from.Given as goal

abbrev pub ghosts-learn : goal.ghosts-learn
ghosts-learn a = record { name = a.blank.name; parts = a.blank.parts }
