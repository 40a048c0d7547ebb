use Rattle.fill_session.specs.State.{seen_as}
use Rattle.fill_session.proofs.Held.{within_folds, space_of}
use Rattle.fill_session.proofs.session.Session.space.Goals as goal

pub bounds-branches-branch : goal.bounds-branches-branch
bounds-branches-branch c =
    let p = c.self.inside.present in
    within_folds c.self.inside.spaces p.examples p.folds p.branches (seen_as (λ q. q.examples) c.self.inside.history) c.args.self.now c.self.view_is c.self.invariant.0 c.branches.result.now c.args.branch c.branches.ensures c.requires.first c.requires.last

pub bounds-branches-branch-2 : goal.bounds-branches-branch-2
bounds-branches-branch-2 c =
    let p = c.self.inside.present in
    within_folds c.self.inside.spaces p.examples p.folds p.branches (seen_as (λ q. q.examples) c.self.inside.history) c.args.self.now c.self.view_is c.self.invariant.0 c.branches.result.now c.args.branch c.branches.ensures c.requires.first c.requires.last

pub returns : goal.returns
returns c =
    let p = c.self.inside.present in
    space_of c.self.inside.spaces p.examples p.folds p.branches (seen_as (λ q. q.examples) c.self.inside.history) c.args.self.now c.self.view_is c.self.invariant.0 c.branches.result.now c.args.branch c.index-branches-branch.result c.branches.ensures c.requires.first c.requires.last
