use Rattle.test_embedding.proofs.example.the_example_goes.Given as goal

abbrev pub ghosts-all_go : goal.ghosts-all_go
ghosts-all_go g a = record { name = a.blank.name; parts = a.blank.parts }
