use Rattle.std.proofs.Common.{Some}
use Rattle.fill_rank.specs.LowerBounds.{IsPlaceBound}
use Rattle.fill_rank.proofs.LowerBounds.{each_set}
use Rattle.fill_rank.proofs.bounds.Bounds.keep.Goals as goal

pub returns : goal.returns
returns c = λ prices e are bound. each_set (IsPlaceBound prices e) c.args.self.now.slots.items _ (Some c.args.bound) bound are
