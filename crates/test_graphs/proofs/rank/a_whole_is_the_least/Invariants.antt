use Rattle.test_graphs.proofs.rank.a_whole_is_the_least.Given as goal

abbrev pub ghosts-finds_whole : goal.ghosts-finds_whole
ghosts-finds_whole a b = record { name = b.blank.name; parts = b.blank.parts }
