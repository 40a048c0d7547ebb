use Rattle.std.proofs.Common.{rules}
use Rattle.fill_object.proofs.costs.Costs.new.Goals as goal

pub returns : goal.returns
returns c prices cs = record { places = search rules }
