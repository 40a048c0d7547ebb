use Rattle.fill_tree.specs.Switch.{case_tree}
use Rattle.fill_print.proofs.Cases.{case_step}
use Rattle.fill_print.proofs.guards.put_case.Goals as goal

pub returns : goal.returns
returns c =
    case_step c.put-2.result c.args.to.now c.put_guard.new.to c.put.new.to c.put_program.new.to c.put-2.new.to (case_tree c.args.case.now)
    c.in_ok-put_guard.ensures c.in_ok-put.ensures c.in_ok-put_program.ensures c.put-2.ensures
