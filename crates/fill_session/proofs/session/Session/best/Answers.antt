use Rattle.std.proofs.Common.{List, map, subst, sym, ap}
use Rattle.std.specs.Prelude.{IfOk}
use Rattle.fill_tree.specs.Meaning.{program_tree}
use Rattle.fill_tree.specs.declared.user.Example.{Example}
use Rattle.fill_space.specs.Best.{AreBestOn}
use Rattle.fill_space.specs.Spaces.{SpacesData, SpaceStands}
use Rattle.fill_session.specs.State.{SessionData, seen_as}
use Rattle.fill_session.proofs.BestOfBranch.{begins_with_chosen, best_of_branch}
use Rattle.fill_session.proofs.Held.{some_branch}
use Rattle.fill_session.proofs.session.Session.best.Goals as goal

pub best-requires-clause-stands : goal.best-requires-clause-stands
best-requires-clause-stands c =
    let p = c.self.inside.present in
    let some = some_branch c.self.inside.spaces p.examples p.folds p.branches (seen_as (λ q. q.examples) c.self.inside.history) c.args.self.now c.self.view_is c.self.invariant.0 c.args.branch c.requires.first c.requires.last in
    (some.0, subst (λ s. SpaceStands s c.space.result some.0) (sym (ap (λ (v : SessionData). v.spaces) c.self.view_is)) (c.space.ensures some.0 some.1))

pub returns-clause-best : goal.returns-clause-best
returns-clause-best c =
    let s = c.args.self.now in
    best_of_branch s.spaces s.examples c.args.branch c.space.result c.args.k c.space.ensures c.best.result
    (subst (λ (v : SpacesData). IfOk c.best.result (λ made. (l : List Example) → SpaceStands v c.space.result l → AreBestOn v.ground l c.args.k (map program_tree made)))
    (ap (λ (v : SessionData). v.spaces) c.self.view_is) c.best.ensures)

pub returns-clause-chosen : goal.returns-clause-chosen
returns-clause-chosen c =
    let s = c.args.self.now in
    begins_with_chosen s.spaces s.examples c.args.branch c.space.result c.args.k c.space.ensures c.best.result c.requires.some
    (subst (λ (v : SpacesData). IfOk c.best.result (λ made. (l : List Example) → SpaceStands v c.space.result l → AreBestOn v.ground l c.args.k (map program_tree made)))
    (ap (λ (v : SessionData). v.spaces) c.self.view_is) c.best.ensures)
