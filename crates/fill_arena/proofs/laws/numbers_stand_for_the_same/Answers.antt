use Rattle.fill_arena.proofs.Grows.{places_stay, sources_stay, atoms_stay, programs_stay}
use Rattle.fill_arena.proofs.laws.numbers_stand_for_the_same.Goals as goal

pub returns-clause-places : goal.returns-clause-places
returns-clause-places g = λ c d made extends s p live. places_stay c d made extends s p live

pub returns-clause-sources : goal.returns-clause-sources
returns-clause-sources g = λ c d made extends s x live. sources_stay c d made extends s x live

pub returns-clause-atoms : goal.returns-clause-atoms
returns-clause-atoms g = λ c d made extends s a live. atoms_stay c d made extends s a live

pub returns-clause-programs : goal.returns-clause-programs
returns-clause-programs h = λ c d made extends g p live. programs_stay c d made extends g p live
