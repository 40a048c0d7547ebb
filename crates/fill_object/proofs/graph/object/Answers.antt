use Rattle.std.proofs.Common.{arith}
use Rattle.std.specs.Option.{option_copied}
use Rattle.fill_arena.proofs.Items.{ok_on}
use Rattle.fill_object.proofs.Objections.{all_answer, few_objection, none_dearer, told_objection}
use Rattle.fill_object.proofs.graph.object.Goals as goal

pub unreachable-requires : goal.unreachable-requires
unreachable-requires c =
    none_dearer (record { alloc = c.args.alloc; prices = c.args.prices; arena = c.args.arena; row = c.args.row; sheet = c.args.sheet; tables = c.args.tables }) c.args.g (option_copied c.args.answer) c.keeps_made.ensures c.keep_small.ensures c.in_ok-least.least c.in-Dearer.is c.in_ok-least.ensures

pub returns-in-Absent-clause-objection : goal.returns-in-Absent-clause-objection
returns-in-Absent-clause-objection c =
    all_answer (record { alloc = c.args.alloc; prices = c.args.prices; arena = c.args.arena; row = c.args.row; sheet = c.args.sheet; tables = c.args.tables }) c.args.g (option_copied c.args.answer) c.keeps_made.ensures c.keep_small.ensures c.in_ok-least.least c.in-Absent.is c.in_ok-least.ensures

pub returns-in-Found-clause-objection : goal.returns-in-Found-clause-objection
returns-in-Found-clause-objection c =
    ok_on _ _ c.objection_of.result c.objection_of.ensures
    (told_objection (record { alloc = c.args.alloc; prices = c.args.prices; arena = c.args.arena; row = c.args.row; sheet = c.args.sheet; tables = c.args.tables }) c.args.g (option_copied c.args.answer) 18446744073709551615 c.in_ok-least.least c.in-Found.chain c.in-Found.is c.deref.result.now c.deref.ensures c.in_ok-least.ensures _)

pub returns-in-Found-clause-few : goal.returns-in-Found-clause-few
returns-in-Found-clause-few c =
    ok_on _ _ c.objection_of.result c.objection_of.ensures
    (few_objection (record { alloc = c.args.alloc; prices = c.args.prices; arena = c.args.arena; row = c.args.row; sheet = c.args.sheet; tables = c.args.tables }) c.args.g (option_copied c.args.answer) 18446744073709551615 (omega arith) c.in_ok-least.least c.in-Found.chain c.in-Found.is c.deref.result.now c.deref.ensures c.in_ok-least.ensures)
