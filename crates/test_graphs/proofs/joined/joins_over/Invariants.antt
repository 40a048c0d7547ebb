use Rattle.test_graphs.proofs.joined.joins_over.Given as goal

abbrev pub ghosts-joins : goal.ghosts-joins
ghosts-joins a = record { name = a.blank.name; parts = a.blank.parts }
