use Rattle.std.proofs.Common.{◌≡◌, take}
use Rattle.std.specs.List.{fold}
use Rattle.fill_arena.specs.Hash.{source_hash}
use Rattle.fill_arena.proofs.hash.hash_sources.Given as goal

abbrev pub invariant-loop-item : goal.invariant-loop-item
invariant-loop-item l = l.hash ≡ fold source_hash 2 (take l.item-index l.items)
