use Rattle.std.proofs.Common.{arith}
use Rattle.std.specs.Option.{option_copied}
use Rattle.fill_arena.proofs.Items.{ok_on}
use Rattle.fill_object.proofs.Objections.{dear_absent, dear_dearer, few_objection, told_objection}
use Rattle.fill_object.proofs.graph.object_within.Goals as goal

pub returns-in-Absent-clause-objection : goal.returns-in-Absent-clause-objection
returns-in-Absent-clause-objection c = dear_absent c.args.on.now c.args.g (option_copied c.args.answer) c.args.limit c.in_ok-least.least c.in-Absent.is c.in_ok-least.ensures

pub returns-in-Dearer-clause-objection : goal.returns-in-Dearer-clause-objection
returns-in-Dearer-clause-objection c = dear_dearer c.args.on.now c.args.g (option_copied c.args.answer) c.args.limit c.in_ok-least.least c.in-Dearer.is c.in_ok-least.ensures

pub returns-in-Found-clause-objection : goal.returns-in-Found-clause-objection
returns-in-Found-clause-objection c =
    ok_on _ _ c.objection_of.result c.objection_of.ensures
    (told_objection c.args.on.now c.args.g (option_copied c.args.answer) c.args.limit c.in_ok-least.least c.in-Found.chain c.in-Found.is c.deref.result.now c.deref.ensures c.in_ok-least.ensures _)

pub returns-in-Found-clause-few : goal.returns-in-Found-clause-few
returns-in-Found-clause-few c =
    ok_on _ _ c.objection_of.result c.objection_of.ensures
    (few_objection c.args.on.now c.args.g (option_copied c.args.answer) c.args.limit (omega arith) c.in_ok-least.least c.in-Found.chain c.in-Found.is c.deref.result.now c.deref.ensures c.in_ok-least.ensures)
