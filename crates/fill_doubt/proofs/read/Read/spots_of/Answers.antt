use Rattle.fill_doubt.specs.Spots.{AreSpotsOf}
use Rattle.fill_doubt.specs.declared.spots.Spots.{Spots}
use Rattle.fill_doubt.proofs.Maps.{found_right}
use Rattle.fill_doubt.proofs.read.Read.spots_of.Goals as goal

pub returns : goal.returns
returns c = λ entries are. found_right (λ (f : Spots). AreSpotsOf entries c.args.s c.args.self.now.text f) _ _ c.get.ensures.value (are.spots c.args.s)
