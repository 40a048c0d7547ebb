use Rattle.fill_session.proofs.OneAnswer.{example_given}
use Rattle.fill_session.proofs.Reproduced.{example_reproduced, example_taken}
use Rattle.fill_session.proofs.laws.examples_are_reproduced.Goals as goal

pub returns : goal.returns
returns c = record { taken = example_taken; reproduced = example_reproduced; given = example_given }
