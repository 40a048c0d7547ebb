use Rattle.std.proofs.Common.{option_map}
use Rattle.fill_tree.specs.Switch.{case_tree}
use Rattle.fill_print.proofs.Chains.{reads_via}
use Rattle.fill_print.proofs.Dispatch.{reads_else, reads_same}
use Rattle.fill_print.proofs.SwitchRules.{case_last, case_none, case_some}
use Rattle.fill_print.specs.Tokens.{tokens_of}
use Rattle.fill_print.proofs.read.switch.next_case.Goals as goal

pub returns-then-room-eq0 : goal.returns-then-room-eq0
returns-then-room-eq0 c = reads_same (λ x. option_map case_tree x.0) (λ x. x.1.now) c.args.bytes.now c.no_case.result (case_last (tokens_of c.args.notation) c.args.room c.if-room-eq0.true) c.no_case.ensures

pub returns-in-Some : goal.returns-in-Some
returns-in-Some c = reads_via (λ x. option_map case_tree x.0) (λ x. x.1.now) 101 c.args.bytes.now c.in-Some._rest.now c.no_case-in-Some.result (case_none (tokens_of c.args.notation) c.args.room) c.in-Some.ensures c.no_case-in-Some.ensures

pub returns-in-None : goal.returns-in-None
returns-in-None c = reads_else (λ x. option_map case_tree x.0) (λ x. x.1.now) 101 c.args.bytes.now c.some_case.result (case_some (tokens_of c.args.notation) c.args.room c.if-room-eq0.false) c.in-None.ensures c.some_case.ensures
