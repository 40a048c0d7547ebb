use Rattle.std.proofs.Common.{◌≡◌, ◌++◌, take}
use Rattle.fill_session.proofs.examples.push_copies.Given as goal

abbrev pub invariant-loop-example : goal.invariant-loop-example
invariant-loop-example l = l.to ≡ l.fn.to ++ take l.example-index l.examples
