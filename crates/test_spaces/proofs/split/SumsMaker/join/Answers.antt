use Rattle.std.proofs.Common.{arith}
use Rattle.std.proofs.lemmas.Grind.{common_steps}
use Rattle.std.proofs.lemmas.Option.{gets}
use Rattle.test_spaces.proofs.split.SumsMaker.join.Goals as goal

pub returns-clause-both : goal.returns-clause-both
returns-clause-both g c = grind (arith, common_steps, gets)
