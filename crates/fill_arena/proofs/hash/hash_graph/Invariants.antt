use Rattle.std.proofs.Common.{◌≡◌, take}
use Rattle.std.specs.List.{fold}
use Rattle.fill_arena.specs.Hash.{edge_hash, mixed}
use Rattle.fill_arena.proofs.hash.hash_graph.Given as goal

abbrev pub invariant-loop-i : goal.invariant-loop-i
invariant-loop-i l = l.hash ≡ fold edge_hash (mixed 4 l.nodes) (take l.i l.edges)
