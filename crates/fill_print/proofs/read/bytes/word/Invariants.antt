use Rattle.std.proofs.Common.{◌≡◌, ◌++◌, take}
use Rattle.fill_print.proofs.read.bytes.word.Given as goal

abbrev pub invariant-loop-c : goal.invariant-loop-c
invariant-loop-c l = l.bytes ≡ take l.c-index l.word ++ l.rest
