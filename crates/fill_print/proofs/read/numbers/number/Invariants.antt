use Rattle.std.proofs.Common.{◌≡◌, ◌≤◌, ◌++◌, length}
use Rattle.fill_print.proofs.Decimals.{so_far}
use Rattle.fill_print.proofs.read.numbers.number.Given as goal

abbrev pub invariant-loop-byte : goal.invariant-loop-byte
invariant-loop-byte l = record { read : l.bytes ≡ so_far l.value ++ l.rest; within : l.value ≤ l.limit }

abbrev pub decreases-loop-byte : goal.decreases-loop-byte
decreases-loop-byte l = length l.rest
