use Rattle.std.proofs.Common.{◌≤◌, List, length, map, refl, sym, subst, ap, ◌∙◌, arith}
use Rattle.std.proofs.lemmas.Bool.{false≢true}
use Rattle.fill_tree.specs.Meaning.{program_tree}
use Rattle.fill_tree.specs.declared.tree.Program.{Program}
use Rattle.fill_tree.specs.declared.user.Example.{Example}
use Rattle.fill_space.specs.Best.{AreBestOn}
use Rattle.fill_session.specs.State.{IsBranch}
use Rattle.fill_session.specs.declared.branch.Branch.{Branch}
use Rattle.fill_report.proofs.Firsts.{best_left, best_lost, few_best, no_branch_left}
use Rattle.fill_report.proofs.best.write_best.Goals as goal

pub returns-then-not-has_branch-clause-leaves : goal.returns-then-not-has_branch-clause-leaves
returns-then-not-has_branch-clause-leaves g c =
    let s = c.args.session.now in
    no_branch_left s.spaces.ground s.examples c.args.branch c.args.k _ _ c.branches.result.now c.no_branch_record.result c.write_made.result c.branches.ensures.shown
    (λ there. false≢true (sym c.if-not-has_branch.true ∙ c.has_branch.ensures.1 there)) c.no_branch_record.ensures c.write_made.ensures.leaves

pub best-requires-clause-first : goal.best-requires-clause-first
best-requires-clause-first g c = (c.has_branch.ensures.0 c.if-not-has_branch.false).0

pub best-requires-clause-last : goal.best-requires-clause-last
best-requires-clause-last g c =
    let last = (c.has_branch.ensures.0 c.if-not-has_branch.false).1 in
    subst (λ (bs : List Branch). c.args.branch ≤ length bs) c.branches.ensures.same last

pub write_programs-requires : goal.write_programs-requires
write_programs-requires g c =
    let s = c.args.session.now in
    let there = c.has_branch.ensures.0 c.if-not-has_branch.false in
    let ps = c.in-Ok.programs in
    let few = few_best s.spaces.ground s.examples c.args.branch c.args.k c.branches.result.now ps c.branches.ensures.shown there.0 there.1 c.in-Ok.ensures.best in
    let same = ap length c.as_slice.ensures in
    let most = c.requires.few in
    omega arith

pub returns-in-Ok-clause-leaves : goal.returns-in-Ok-clause-leaves
returns-in-Ok-clause-leaves g c =
    let s = c.args.session.now in
    let there = c.has_branch.ensures.0 c.if-not-has_branch.false in
    let best =
    subst (λ (ps : List Program). (list : List Example) → IsBranch s.spaces.ground s.examples c.args.branch list → AreBestOn s.spaces.ground list c.args.k (map program_tree ps))
    (sym c.as_slice.ensures) c.in-Ok.ensures.best in
    best_left s.spaces.ground s.examples c.args.branch c.args.k _ _ c.branches.result.now (map program_tree c.as_slice.result.now) c.write_programs.result
    c.branches.ensures.shown there.0 there.1 best c.write_programs.ensures.leaves

pub returns-in-Err-clause-leaves : goal.returns-in-Err-clause-leaves
returns-in-Err-clause-leaves g c =
    let s = c.args.session.now in
    best_lost s.spaces.ground s.examples c.args.branch c.args.k _ _ refl
