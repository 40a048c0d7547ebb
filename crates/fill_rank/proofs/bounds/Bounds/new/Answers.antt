use Rattle.std.proofs.Common.{sym, subst}
use Rattle.fill_rank.specs.LowerBounds.{IsPlaceBound}
use Rattle.fill_rank.proofs.bounds.Bounds.new.Goals as goal

pub returns : goal.returns
returns c = λ prices e k b at. subst (IsPlaceBound prices e) (sym (c.in_ok-no_bounds.ensures k b at)) tt
