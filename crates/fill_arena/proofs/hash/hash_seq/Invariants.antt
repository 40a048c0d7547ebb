use Rattle.std.proofs.Common.{◌≡◌, take, length}
use Rattle.std.specs.List.{fold}
use Rattle.fill_arena.specs.Hash.{token_hash, mixed}
use Rattle.fill_arena.proofs.hash.hash_seq.Given as goal

abbrev pub invariant-loop-i : goal.invariant-loop-i
invariant-loop-i l = l.made ≡ fold token_hash (mixed l.hash (length l.seq)) (take l.i l.seq)
