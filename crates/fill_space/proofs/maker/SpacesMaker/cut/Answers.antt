use Rattle.fill_space.proofs.Copies.{cut_renamed}
use Rattle.fill_space.proofs.maker.SpacesMaker.cut.Goals as goal

pub invariant_of-self : goal.invariant_of-self
invariant_of-self c =
    let before = c.self.inside.arena in
    let after = c.cut.new.self in
    let renamed = cut_renamed before after c.args.mark c.keeps_made.ensures c.cut.ensures.cut c.cut.ensures.extends in (
      c.self.invariant.0,
      c.carry_met.ensures before after c.self.invariant.1 renamed,
      c.carry_built.ensures c.self.inside.ground before after c.self.invariant.2 renamed,
      c.carry_weights.ensures c.self.inside.ground.settings.profile.prices before after c.self.invariant.3 renamed,
    )
