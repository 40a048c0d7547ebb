use Rattle.std.proofs.Common.{subst}
use Rattle.fill_report.specs.Tasks.{AsksSome}
use Rattle.fill_report.specs.declared.tasks.Query.TheVariants as query
use Rattle.fill_report.proofs.Questions.{as_this, branches_left, count_left, few_shown, switch_left}
use Rattle.fill_report.proofs.entries.write_query.Goals as goal

pub write_branches-requires : goal.write_branches-requires
write_branches-requires g c = few_shown c.args.session.now.spaces.ground c.args.session.now.examples c.branches.result.now c.branches.ensures.shown

pub returns-in-Programs-clause-leaves : goal.returns-in-Programs-clause-leaves
returns-in-Programs-clause-leaves g c =
    let s = c.args.session.now in
    as_this s.spaces.ground s.examples c.args.query query.Programs c.write_branches.result _ _ c.in-Programs.is
    (branches_left s.spaces.ground s.examples c.branches.result.now c.write_branches.result _ _ c.branches.ensures.shown c.write_branches.ensures.leaves)

pub returns-in-Switch-clause-leaves : goal.returns-in-Switch-clause-leaves
returns-in-Switch-clause-leaves g c =
    let s = c.args.session.now in
    as_this s.spaces.ground s.examples c.args.query query.Switch c.write_made.result _ _ c.in-Switch.is
    (switch_left s.spaces.ground s.examples c.switch_record.result c.write_made.result _ _ c.switch_record.ensures c.write_made.ensures.leaves)

pub returns-in-Count-clause-leaves : goal.returns-in-Count-clause-leaves
returns-in-Count-clause-leaves g c =
    let s = c.args.session.now in
    as_this s.spaces.ground s.examples c.args.query query.Count c.write_made-in-Count.result _ _ c.in-Count.is
    (count_left s.spaces.ground s.examples c.count_record.result c.write_made-in-Count.result _ _ c.count_record.ensures.made c.write_made-in-Count.ensures.leaves)

pub write_best-requires-clause-some : goal.write_best-requires-clause-some
write_best-requires-clause-some g c = (subst AsksSome c.in-Best.is c.requires.some).0

pub write_best-requires-clause-few : goal.write_best-requires-clause-few
write_best-requires-clause-few g c = (subst AsksSome c.in-Best.is c.requires.some).1
