use Rattle.std.proofs.Common.{◌+◌, ℕ, List, Bool, nat_eq, length, sym, subst}
use Rattle.std.proofs.lemmas.Bool.{eqb-true, eqb-false}
use Rattle.fill_session.specs.Folded.{IsGuardOf}
use Rattle.fill_session.specs.declared.branch.Branch.{Branch}
use Rattle.fill_split.specs.declared.folds.Fold.{Fold}
use Rattle.fill_session.proofs.Making.{list_of, rows_at, yet_more, yet_lacks, yet_all}
use Rattle.fill_session.proofs.branches.guarded.Goals as goal

pub split_at-requires : goal.split_at-requires
split_at-requires c =
    let s = c.args.spaces.now in
    let f = c.index-folds-k.result in
    let lists = c.requires.kept.0 in
    let at = list_of s c.args.folds.now lists c.loop-k.k f c.requires.kept.1 c.loop-k-test.true c.index-folds-k.is in
    let left = ((c.loop-k.invariant).yet lists c.requires.kept.1 c.requires.kept.2).left in
    (rows_at s lists c.loop-k.k f c.len.result c.loop-k.rest.now at c.len.ensures left).fits

pub branch_of-requires-clause-stands : goal.branch_of-requires-clause-stands
branch_of-requires-clause-stands c =
    let at = list_of c.args.spaces.now c.args.folds.now c.requires.kept.0 c.loop-k.k c.index-folds-k.result c.requires.kept.1 c.loop-k-test.true c.index-folds-k.is in
    (at.list, (at.for).stands)

pub loop-k-preserved : goal.loop-k-preserved
loop-k-preserved c =
    let x : Branch = c.in-Ok-branch_of.branch in
    let folds : List (Fold ℕ) = c.args.folds.now in
    let last : Bool = nat_eq (c.loop-k.k + 1) (length folds) in
    yet_more c.args.spaces.now folds c.args.rows.now c.loop-k.rest.now c.split_at.result.0.now c.split_at.result.1.now c.loop-k.k c.len.result c.index-folds-k.result last
    c.loop-k-test.true c.index-folds-k.is c.len.ensures c.split_at.ensures.front c.split_at.ensures.back
    c.loop-k.made c.push.new.self x c.loop-k.invariant (eqb-true (c.loop-k.k + 1) (length folds)) (eqb-false (c.loop-k.k + 1) (length folds))
    c.in-Ok-branch_of.ensures.rows (subst (λ guard. IsGuardOf c.args.spaces.now.ground c.split_at.result.0.now c.split_at.result.1.now last guard) (sym c.in-Ok-branch_of.ensures.guard) c.in-Ok.ensures.made)
    c.in-Ok-branch_of.ensures.program c.in-Ok-push.ensures.ok

pub returns-in-Err-clause-refused : goal.returns-in-Err-clause-refused
returns-in-Err-clause-refused c = λ real lists kept is.
    let folds : List (Fold ℕ) = c.args.folds.now in
    let last : Bool = nat_eq (c.loop-k.k + 1) (length folds) in
    yet_lacks c.args.spaces.now folds c.args.rows.now c.loop-k.rest.now c.split_at.result.0.now c.split_at.result.1.now c.loop-k.k c.len.result c.index-folds-k.result last
    c.loop-k-test.true c.index-folds-k.is c.len.ensures c.split_at.ensures.front c.split_at.ensures.back
    c.loop-k.made c.in-Err.refusal c.loop-k.invariant (c.in-Err.ensures.refused real) (eqb-false (c.loop-k.k + 1) (length folds)) lists kept is

pub returns-clause-made : goal.returns-clause-made
returns-clause-made c = yet_all c.args.spaces.now c.args.folds.now c.args.rows.now c.loop-k.rest.now c.loop-k.k c.loop-k.made c.loop-k.invariant c.loop-k-test.false
