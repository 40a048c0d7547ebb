use Rattle.std.proofs.Common.{ℕ, List, subst}
use Rattle.std.specs.Prelude.{IfOk}
use Rattle.fill_tree.specs.Chosen.{IsLeast}
use Rattle.fill_tree.specs.Meaning.{program_tree}
use Rattle.fill_tree.specs.declared.user.Example.{Example}
use Rattle.fill_arena.specs.Stands.{ProgramStands}
use Rattle.fill_space.specs.Ground.{ChosenOn}
use Rattle.fill_space.specs.Spaces.{SpacesData, SpaceStands, spaces_over}
use Rattle.fill_space.proofs.Told.{least_told}
use Rattle.fill_space.proofs.spaces.Spaces.least.Goals as goal

pub returns : goal.returns
returns c =
    let arena = c.self.inside.arena in
    subst (λ (v : SpacesData). IfOk c.least.result (λ p. (l : List Example) → SpaceStands v c.args.s l → ChosenOn v.ground l (program_tree p))) c.self.view_is
    (least_told (spaces_over c.self.inside.ground arena) c.args.s c.least.result
    (subst (λ (k : ℕ). IfOk c.least.result (λ p. IsLeast c.self.inside.ground.settings.profile.prices (ProgramStands arena k) (program_tree p))) c.graph.ensures c.least.ensures))
