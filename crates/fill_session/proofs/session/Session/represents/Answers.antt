use Rattle.std.proofs.Common.{IsTrue, subst, sym, ap}
use Rattle.std.specs.Prelude.{◌↔◌}
use Rattle.fill_tree.specs.Meaning.{program_tree}
use Rattle.fill_space.specs.Ground.{ExplainsOn}
use Rattle.fill_space.specs.Spaces.{SpacesData, SpaceStands}
use Rattle.fill_session.specs.State.{SessionData, seen_as}
use Rattle.fill_session.proofs.Held.{some_branch}
use Rattle.fill_session.proofs.session.Session.represents.Goals as goal

pub holds-requires : goal.holds-requires
holds-requires c =
    let p = c.self.inside.present in
    let some = some_branch c.self.inside.spaces p.examples p.folds p.branches (seen_as (λ q. q.examples) c.self.inside.history) c.args.self.now c.self.view_is c.self.invariant.0 c.args.branch c.requires.first c.requires.last in
    (some.0, subst (λ s. SpaceStands s c.space.result some.0) (sym (ap (λ (v : SessionData). v.spaces) c.self.view_is)) (c.space.ensures some.0 some.1))

pub returns : goal.returns
returns c = λ list branch.
    let same = ap (λ (v : SessionData). v.spaces) c.self.view_is in
    subst (λ (s : SpacesData). IsTrue c.holds.result ↔ ExplainsOn s.ground list (program_tree c.args.p.now)) same
    (c.holds.ensures list (subst (λ s. SpaceStands s c.space.result list) (sym same) (c.space.ensures list branch)))
