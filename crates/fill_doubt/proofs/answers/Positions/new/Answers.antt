use Rattle.std.proofs.Common.{refl}
use Rattle.fill_doubt.proofs.Gains.{have_empty}
use Rattle.fill_doubt.proofs.answers.Positions.new.Goals as goal

pub returns : goal.returns
returns c = have_empty (λ x. x) _ _ c.new.ensures.items refl
