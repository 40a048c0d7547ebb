use Rattle.std.proofs.Common.{refl}
use Rattle.fill_doubt.proofs.Gains.{have_empty}
use Rattle.fill_doubt.proofs.answers.Texts.new.Goals as goal

pub returns : goal.returns
returns c = have_empty (λ x. x.now) _ _ c.new.ensures.items refl
