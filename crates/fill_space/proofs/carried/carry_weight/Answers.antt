use Rattle.fill_space.proofs.Weighing.{weight_carried}
use Rattle.fill_space.proofs.carried.carry_weight.Goals as goal

pub returns-in-Some : goal.returns-in-Some
returns-in-Some c = λ prices before after is renamed told.
    c.keep.ensures prices after told (weight_carried prices before after c.args.renaming.now renamed c.args.graph c.in-Some.now c.args.cost c.in-Some.ensures is)
