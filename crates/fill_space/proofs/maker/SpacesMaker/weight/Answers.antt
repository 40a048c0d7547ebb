use Rattle.std.proofs.Common.{ℕ, List, subst, sym}
use Rattle.std.specs.Prelude.{IfOk}
use Rattle.fill_tree.specs.declared.user.Example.{Example}
use Rattle.fill_arena.specs.Contents.{IsGraph}
use Rattle.fill_space.specs.Ground.{WeighsOn}
use Rattle.fill_space.specs.Spaces.{SpacesData, SpaceStands, spaces_over}
use Rattle.fill_space.specs.Weighed.{IsWeighed}
use Rattle.fill_space.proofs.Weighing.{weight_told}
use Rattle.fill_space.proofs.maker.SpacesMaker.weight.Goals as goal

pub weigh_once-requires-clause-graph : goal.weigh_once-requires-clause-graph
weigh_once-requires-clause-graph c =
    let stands = c.requires.1 in
    subst (λ (v : SpacesData). IsGraph v.arena c.graph.result) (sym c.self.view_is) (subst (λ (k : ℕ). IsGraph c.args.self.now.arena k) (sym c.graph.ensures) stands.graph)

pub returns-clause-weight : goal.returns-clause-weight
returns-clause-weight c =
    let over = c.self.inside.ground in
    let arena = c.self.inside.arena in
    subst (λ (v : SpacesData). IfOk c.weigh_once.result (λ w. (l : List Example) → SpaceStands v c.args.kept l → WeighsOn v.ground l w)) c.self.view_is
    (weight_told (spaces_over over arena) c.args.kept c.weigh_once.result
    (subst (λ (k : ℕ). IfOk c.weigh_once.result (IsWeighed over.settings.profile.prices arena k)) c.graph.ensures c.weigh_once.ensures.weight))

pub invariant_of-self : goal.invariant_of-self
invariant_of-self c = (c.self.invariant.0, c.self.invariant.1, c.self.invariant.2, c.weigh_once.ensures.weighed)
