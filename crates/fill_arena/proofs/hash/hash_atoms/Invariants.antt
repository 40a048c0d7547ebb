use Rattle.std.proofs.Common.{◌≡◌, take}
use Rattle.std.specs.List.{fold}
use Rattle.fill_arena.specs.Hash.{atom_hash}
use Rattle.fill_arena.proofs.hash.hash_atoms.Given as goal

abbrev pub invariant-loop-item : goal.invariant-loop-item
invariant-loop-item l = l.hash ≡ fold atom_hash 3 (take l.item-index l.items)
