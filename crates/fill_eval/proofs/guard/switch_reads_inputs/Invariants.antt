use Rattle.std.proofs.Common.{take}
use Rattle.std.specs.List.{All}
use Rattle.fill_tree.specs.Guard.{ReadsInputs}
use Rattle.fill_eval.proofs.guard.switch_reads_inputs.Given as goal

abbrev pub invariant-loop-case : goal.invariant-loop-case
invariant-loop-case l = All (λ c. ReadsInputs l.sheet c.guard) (take l.case-index l.s.cases)
