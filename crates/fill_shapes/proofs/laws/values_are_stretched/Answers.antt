use Rattle.fill_shapes.proofs.ValueLaws.{stretched}
use Rattle.fill_shapes.proofs.laws.values_are_stretched.Goals as goal

pub returns : goal.returns
returns c = stretched
