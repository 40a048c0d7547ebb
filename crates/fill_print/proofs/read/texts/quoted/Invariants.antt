use Rattle.std.proofs.Common.{length}
use Rattle.std.specs.Prelude.{string_bytes}
use Rattle.std.specs.Str.{chars}
use Rattle.fill_print.specs.Texts.{Quoted}
use Rattle.fill_print.proofs.Chains.{Leads}
use Rattle.fill_print.proofs.read.texts.quoted.Given as goal

abbrev pub invariant-loop-spelled : goal.invariant-loop-spelled
invariant-loop-spelled l = Leads (Quoted l.may_be_empty) (Quoted l.may_end) (chars (string_bytes l.spelled)) l.bytes l.rest

abbrev pub decreases-loop-spelled : goal.decreases-loop-spelled
decreases-loop-spelled l = length l.rest
