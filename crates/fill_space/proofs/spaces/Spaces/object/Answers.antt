use Rattle.std.proofs.Common.{ℕ, ◌<◌, ◌^◌, List, subst}
use Rattle.std.specs.Prelude.{IfOk, IfSome, MatchOption, option_copied, option_map}
use Rattle.fill_tree.specs.Cost.{program_cost}
use Rattle.fill_tree.specs.Meaning.{program_tree}
use Rattle.fill_tree.specs.Tree.{Atoms}
use Rattle.fill_tree.specs.declared.user.Example.{Example}
use Rattle.fill_arena.specs.Stands.{ProgramStands}
use Rattle.fill_object.specs.Objector.{Answers, IsObjection}
use Rattle.fill_space.specs.Objector.{ObjectionIs, objection_tree}
use Rattle.fill_space.specs.Spaces.{SpacesData, SpaceStands, spaces_over}
use Rattle.fill_space.proofs.Objector.{object_told}
use Rattle.fill_space.proofs.spaces.Spaces.object.Goals as goal

pub returns-clause-objection : goal.returns-clause-objection
returns-clause-objection c =
    let over = c.self.inside.ground in
    let arena = c.self.inside.arena in
    let row = c.args.row in
    let told = option_copied c.args.said in
    subst (λ (v : SpacesData). IfOk c.object.result (λ found. (l : List Example) → SpaceStands v c.args.s l → ObjectionIs v.ground l row told (option_map objection_tree found))) c.self.view_is
    (object_told (spaces_over over arena) c.args.s row told c.object.result
    (subst (λ (k : ℕ). IfOk c.object.result (λ found. MatchOption found ((p : Atoms) → ProgramStands arena k p → Answers over.sheet over.tables row told p) (IsObjection over.settings.profile.prices arena k over.sheet over.tables row told)))
    c.graph.ensures c.object.ensures.objection))

pub returns-clause-few : goal.returns-clause-few
returns-clause-few c =
    subst (λ (v : SpacesData). IfOk c.object.result (λ found. IfSome found (λ o. program_cost v.ground.settings.profile.prices (program_tree o.program) < 2 ^ 64))) c.self.view_is c.object.ensures.few
