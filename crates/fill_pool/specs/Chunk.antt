-- What contracts see of a chunk: its items, and how many it can hold.
use Rattle.std.specs.Prelude.{ℕ, List}
use Rattle.fill_pool.specs.declared.chunk.Chunk.{Chunk}

module _ {X : Type 0} where
  abbrev pub held : Chunk X → List X
  held c = c.0

  abbrev pub size : Chunk X → ℕ
  size c = c.1
