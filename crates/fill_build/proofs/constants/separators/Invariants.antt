use Rattle.std.proofs.Common.{take}
use Rattle.fill_tree.specs.Grammar.{Allows}
use Rattle.fill_tree.specs.declared.user.Constants.TheVariants.{Separators}
use Rattle.fill_build.proofs.constants.separators.Given as goal

abbrev pub invariant-loop-i : goal.invariant-loop-i
invariant-loop-i l = Allows Separators (take l.i l.rest)
