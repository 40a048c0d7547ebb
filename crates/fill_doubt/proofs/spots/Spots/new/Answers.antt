use Rattle.std.proofs.Common.{false, refl}
use Rattle.fill_doubt.proofs.Gains.{have_empty}
use Rattle.fill_doubt.proofs.spots.Spots.new.Goals as goal

pub returns-clause-others : goal.returns-clause-others
returns-clause-others c = have_empty (λ p. p) _ false c.new-2.ensures.items refl
