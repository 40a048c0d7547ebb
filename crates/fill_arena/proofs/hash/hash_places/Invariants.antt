use Rattle.std.proofs.Common.{◌≡◌}
use Rattle.fill_arena.specs.Hash.{samples_hash}
use Rattle.fill_arena.proofs.hash.hash_places.Given as goal

abbrev pub invariant-loop-i : goal.invariant-loop-i
invariant-loop-i l = l.hash ≡ samples_hash l.places l.i
