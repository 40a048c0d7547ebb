use Rattle.std.proofs.Common.{ℕ, List, subst, sym}
use Rattle.std.specs.Prelude.{◌↔◌, IfOk, IsTrue}
use Rattle.fill_tree.specs.declared.user.Example.{Example}
use Rattle.fill_doubt.specs.Gives.{Differ}
use Rattle.fill_doubt.specs.Shapes.{ShapesStand}
use Rattle.fill_space.specs.Doubt.{IsDoubtful}
use Rattle.fill_space.specs.Spaces.{SpacesData, SpaceStands, spaces_over}
use Rattle.fill_space.proofs.Told.{doubt_told}
use Rattle.fill_space.proofs.spaces.Spaces.doubt_with.Goals as goal

pub doubt_with-requires-clause-shapes : goal.doubt_with-requires-clause-shapes
doubt_with-requires-clause-shapes c = subst (λ (v : SpacesData). ShapesStand v.arena c.args.shapes.now) (sym c.self.view_is) c.requires.shapes

pub returns-clause-shapes : goal.returns-clause-shapes
returns-clause-shapes c = subst (λ (v : SpacesData). ShapesStand v.arena c.doubt_with.new.shapes) c.self.view_is c.doubt_with.ensures.shapes

pub returns-clause-flag : goal.returns-clause-flag
returns-clause-flag c =
    let over = c.self.inside.ground in
    let arena = c.self.inside.arena in
    let row = c.args.row in
    subst (λ (v : SpacesData). IfOk c.doubt_with.result (λ b. (l : List Example) → SpaceStands v c.args.s l → IsTrue b ↔ IsDoubtful v.ground l row)) c.self.view_is
    (doubt_told (spaces_over over arena) c.args.s row c.doubt_with.result
    (subst (λ (k : ℕ). IfOk c.doubt_with.result (λ b. IsTrue b ↔ Differ arena over.sheet over.tables row k)) c.graph.ensures c.doubt_with.ensures.flag))
