use Rattle.std.proofs.Common.{[]}
use Rattle.fill_text.specs.Lists.{Adds}
use Rattle.fill_keys.specs.Keys.{keys_cmp}
use Rattle.fill_keys.proofs.SoFar.{IsSmaller}
use Rattle.fill_keys.proofs.keys.minimal_keys.Given as goal

abbrev pub invariant-loop-size : goal.invariant-loop-size
invariant-loop-size l = Adds keys_cmp [] l.keys (IsSmaller l.tables l.table l.size)
