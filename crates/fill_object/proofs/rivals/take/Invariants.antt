use Rattle.std.proofs.Common.{◌≡◌}
use Rattle.fill_object.proofs.rivals.take.Given as goal

abbrev pub invariant-loop-i : goal.invariant-loop-i
invariant-loop-i g l = l.rivals.items ≡ l.initial.rivals.items
