use Rattle.std.proofs.Common.{◌≡◌, take, length}
use Rattle.std.specs.List.{fold}
use Rattle.fill_arena.specs.Hash.{mixed}
use Rattle.fill_arena.proofs.hash.hash_text.Given as goal

abbrev pub invariant-loop-i : goal.invariant-loop-i
invariant-loop-i l = l.made ≡ fold mixed (mixed l.hash (length l.text)) (take l.i l.text)
