use Rattle.fill_tree.proofs.GuardLaws.{some_taken, one_taken}
use Rattle.fill_tree.proofs.laws.one_program_is_taken.Goals as goal

pub returns : goal.returns
returns c = record { some = some_taken; one = one_taken }
