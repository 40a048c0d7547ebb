use Rattle.std.proofs.Common.{◌≡◌, take, length}
use Rattle.std.specs.List.{fold}
use Rattle.fill_arena.specs.Hash.{condition_hash, mixed}
use Rattle.fill_arena.proofs.hash.hash_conditions.Given as goal

abbrev pub invariant-loop-item : goal.invariant-loop-item
invariant-loop-item l = l.made ≡ fold condition_hash (mixed l.hash (length l.items)) (take l.item-index l.items)
