use Rattle.std.proofs.Common.{ℕ, ◌<◌, ◌^◌, List, subst}
use Rattle.fill_tree.specs.Cost.{program_cost}
use Rattle.fill_tree.specs.Tree.{Atoms}
use Rattle.fill_tree.specs.declared.user.Example.{Example}
use Rattle.fill_space.specs.Ground.{ExplainsOn}
use Rattle.fill_space.specs.Spaces.{SpacesData, SpaceStands}
use Rattle.fill_space.proofs.spaces.Spaces.keep_costs.Goals as goal

pub returns : goal.returns
returns c =
    let over = c.self.inside.ground in
    let arena = c.self.inside.arena in
    subst (λ (v : SpacesData). (k : ℕ) (l : List Example) → SpaceStands v k l → (p : Atoms) → ExplainsOn v.ground l p → program_cost v.ground.settings.profile.prices p < 2 ^ 64) c.self.view_is
    (λ k l stands p explains. c.costs_are_present.ensures.programs over.settings.profile.prices c.keep_small.ensures arena c.keeps_made.ensures k p ((stands.exact p).1 explains))
