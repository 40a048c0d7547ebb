use Rattle.std.proofs.Common.{ℕ, ◌<◌, ◌^◌, List, sym, subst}
use Rattle.std.specs.Prelude.{IfOk, IfSome, MatchOption, option_copied, option_map}
use Rattle.fill_tree.specs.Cost.{program_cost}
use Rattle.fill_tree.specs.Meaning.{program_tree}
use Rattle.fill_tree.specs.declared.user.Example.{Example}
use Rattle.fill_object.specs.Guide.{IsGuideOf}
use Rattle.fill_object.specs.Objector.{AllDearer, IsObjection}
use Rattle.fill_space.specs.Objector.{ObjectionWithin, objection_tree}
use Rattle.fill_space.specs.Spaces.{GuideStands, SpacesData, SpaceStands, spaces_over}
use Rattle.fill_space.proofs.Objector.{within_told}
use Rattle.fill_space.proofs.spaces.Spaces.object_within.Goals as goal

pub returns-clause-objection : goal.returns-clause-objection
returns-clause-objection c =
    let over = c.self.inside.ground in
    let arena = c.self.inside.arena in
    let row = c.args.row in
    let told = option_copied c.args.said in
    let limit = c.args.limit in
    subst (λ (v : SpacesData). IfOk c.object_within.result (λ found. (l : List Example) → SpaceStands v c.args.s l → ObjectionWithin v.ground l row told limit (option_map objection_tree found))) c.self.view_is
    (within_told (spaces_over over arena) c.args.s row told limit c.object_within.result
    (subst (λ (k : ℕ). IfOk c.object_within.result (λ found. MatchOption found (AllDearer over.settings.profile.prices arena k over.sheet over.tables row told limit) (IsObjection over.settings.profile.prices arena k over.sheet over.tables row told)))
    c.graph.ensures c.object_within.ensures.objection))

pub returns-clause-few : goal.returns-clause-few
returns-clause-few c =
    subst (λ (v : SpacesData). IfOk c.object_within.result (λ found. IfSome found (λ o. program_cost v.ground.settings.profile.prices (program_tree o.program) < 2 ^ 64))) c.self.view_is c.object_within.ensures.few

pub object_within-requires-clause-guide : goal.object_within-requires-clause-guide
object_within-requires-clause-guide c =
    subst (λ (k : ℕ). IsGuideOf c.self.inside.ground.settings.profile.prices c.self.inside.arena k c.args.guide.now) (sym c.graph.ensures)
    (subst (λ (v : SpacesData). GuideStands v c.args.s c.args.guide.now) (sym c.self.view_is) c.requires.guide)
