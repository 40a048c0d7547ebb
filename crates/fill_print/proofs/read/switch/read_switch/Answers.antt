use Rattle.fill_tree.specs.Switch.{switch_tree}
use Rattle.fill_print.proofs.Whole.{halts_fault, rest_fault, same_text, whole_text}
use Rattle.fill_print.specs.Tokens.{tokens_of}
use Rattle.fill_print.proofs.read.switch.read_switch.Goals as goal

pub returns-in-None-clause-ok : goal.returns-in-None-clause-ok
returns-in-None-clause-ok c = whole_text (tokens_of c.args.notation) c.args.bytes.now (switch_tree c.in-Ok.switch) c.in-Ok.rest.now c.in-Ok.ensures c.in-None.ensures

pub returns-in-None-clause-back : goal.returns-in-None-clause-back
returns-in-None-clause-back c = λ s h. same_text (tokens_of c.args.notation) c.args.bytes.now (switch_tree c.in-Ok.switch) s (whole_text (tokens_of c.args.notation) c.args.bytes.now (switch_tree c.in-Ok.switch) c.in-Ok.rest.now c.in-Ok.ensures c.in-None.ensures) h

pub returns-in-Some-clause-err : goal.returns-in-Some-clause-err
returns-in-Some-clause-err c = rest_fault (tokens_of c.args.notation) c.args.bytes.now (switch_tree c.in-Ok.switch) c.in-Some._byte c.in-Ok.rest.now c.in-Some._after.now c.in-Ok.ensures c.in-Some.ensures

pub returns-in-Some-clause-back : goal.returns-in-Some-clause-back
returns-in-Some-clause-back c = λ s h. absurd ((rest_fault (tokens_of c.args.notation) c.args.bytes.now (switch_tree c.in-Ok.switch) c.in-Some._byte c.in-Ok.rest.now c.in-Some._after.now c.in-Ok.ensures c.in-Some.ensures).none s h)

pub returns-in-Err-Bad-clause-err : goal.returns-in-Err-Bad-clause-err
returns-in-Err-Bad-clause-err c = halts_fault (tokens_of c.args.notation) c.args.bytes.now c.in-Err-Bad.left (rw c.in-Err-Bad.field-0-is at c.in-Err-Bad.ensures)

pub returns-in-Err-Bad-clause-back : goal.returns-in-Err-Bad-clause-back
returns-in-Err-Bad-clause-back c = λ s h. absurd ((halts_fault (tokens_of c.args.notation) c.args.bytes.now c.in-Err-Bad.left (rw c.in-Err-Bad.field-0-is at c.in-Err-Bad.ensures)).none s h)
