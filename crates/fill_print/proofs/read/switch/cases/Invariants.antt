use Rattle.std.proofs.Common.{map}
use Rattle.fill_tree.specs.Switch.{case_tree}
use Rattle.fill_print.specs.Switches.{Cases}
use Rattle.fill_print.proofs.Chains.{Leads}
use Rattle.fill_print.specs.Tokens.{tokens_of}
use Rattle.fill_print.proofs.read.switch.cases.Given as goal

abbrev pub invariant-loop-cases : goal.invariant-loop-cases
invariant-loop-cases l = Leads (Cases (tokens_of l.notation) 7) (Cases (tokens_of l.notation) l.room) (map case_tree l.cases) l.bytes l.rest

abbrev pub decreases-loop-cases : goal.decreases-loop-cases
decreases-loop-cases l = l.room
