use Rattle.std.proofs.Common.{ℕ, List, subst}
use Rattle.std.specs.Prelude.{◌↔◌, IsTrue}
use Rattle.fill_tree.specs.Meaning.{program_tree}
use Rattle.fill_tree.specs.declared.user.Example.{Example}
use Rattle.fill_arena.specs.Stands.{ProgramStands}
use Rattle.fill_space.specs.Ground.{ExplainsOn}
use Rattle.fill_space.specs.Spaces.{SpacesData, SpaceStands, spaces_over}
use Rattle.fill_space.proofs.Told.{holds_told}
use Rattle.fill_space.proofs.spaces.Spaces.holds.Goals as goal

pub returns : goal.returns
returns c =
    let arena = c.self.inside.arena in
    let p = program_tree c.args.p.now in
    subst (λ (v : SpacesData). (l : List Example) → SpaceStands v c.args.s l → IsTrue c.holds.result ↔ ExplainsOn v.ground l p) c.self.view_is
    (holds_told (spaces_over c.self.inside.ground arena) c.args.s p c.holds.result
    (subst (λ (k : ℕ). IsTrue c.holds.result ↔ ProgramStands arena k p) c.graph.ensures c.holds.ensures))
