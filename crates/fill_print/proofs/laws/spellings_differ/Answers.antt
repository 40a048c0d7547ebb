use Rattle.fill_print.proofs.Whole.{one_text}
use Rattle.fill_print.proofs.laws.spellings_differ.Goals as goal

pub returns : goal.returns
returns c = λ token_set s t p q e. one_text token_set s t p q e
