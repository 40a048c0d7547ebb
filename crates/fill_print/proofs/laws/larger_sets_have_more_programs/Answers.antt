use Rattle.fill_print.proofs.Growth.{switch_grows}
use Rattle.fill_print.proofs.laws.larger_sets_have_more_programs.Goals as goal

pub returns : goal.returns
returns c = λ small large s grow h. switch_grows small large grow s h
