use Rattle.std.proofs.Common.{◌≡◌, ◌++◌, take}
use Rattle.fill_pool.specs.Chunk.{held, size}
use Rattle.fill_pool.proofs.chunk.Chunk.fill.Given as goal

abbrev pub invariant-loop-i : goal.invariant-loop-i
invariant-loop-i g l = record {
  items : held l.self ≡ held l.fn.self ++ take l.i l.items;
  size : size l.self ≡ size l.fn.self;
}
