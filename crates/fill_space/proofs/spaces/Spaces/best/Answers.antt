use Rattle.std.proofs.Common.{ℕ, List, map, subst}
use Rattle.std.specs.Prelude.{IfOk}
use Rattle.fill_tree.specs.Meaning.{program_tree}
use Rattle.fill_tree.specs.Order.{program_cmp}
use Rattle.fill_tree.specs.declared.user.Example.{Example}
use Rattle.fill_arena.specs.Stands.{ProgramStands}
use Rattle.fill_best.specs.First.{AreFirst}
use Rattle.fill_space.specs.Best.{AreBestOn}
use Rattle.fill_space.specs.Spaces.{SpacesData, SpaceStands, spaces_over}
use Rattle.fill_space.proofs.Best.{best_told}
use Rattle.fill_space.proofs.spaces.Spaces.best.Goals as goal

pub returns : goal.returns
returns c =
    let arena = c.self.inside.arena in
    let k = c.args.k in
    subst (λ (v : SpacesData). IfOk c.best.result (λ made. (l : List Example) → SpaceStands v c.args.s l → AreBestOn v.ground l k (map program_tree made))) c.self.view_is
    (best_told (spaces_over c.self.inside.ground arena) c.args.s k c.best.result
    (subst (λ (g : ℕ). IfOk c.best.result (λ made. AreFirst (program_cmp c.self.inside.ground.settings.profile.prices) (ProgramStands arena g) k (map program_tree made))) c.graph.ensures c.best.ensures))
