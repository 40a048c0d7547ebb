use Rattle.fill_space.proofs.Building.{built_carried}
use Rattle.fill_space.proofs.carried.carry_row.Goals as goal

pub returns : goal.returns
returns c = λ g before after is renamed told.
    c.keep.ensures g after told (built_carried g before after c.args.renaming.now renamed c.args.row c.args.found.now.text c.args.found.now.graph c.in-Some.now c.in-Some.ensures is)
