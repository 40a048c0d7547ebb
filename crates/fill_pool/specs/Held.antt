-- What holds of the fields of a chunk.
use Rattle.std.specs.Prelude.{◌≡◌, ℕ, ◌+◌, length}
use Rattle.fill_pool.specs.declared.block.Start.{Start}
use Rattle.fill_pool.specs.declared.block.Store.{Store}
use Rattle.fill_pool.specs.declared.block.Lease.{Lease}

-- the parts are those of one block, which has room for `size` items and holds `count`
pub record IsOneBlock {X A : Type 0} (first : Start X) (stock : Store X) (right : Lease X A) (source : A) (size count : ℕ) : Type 0 where
  pub at : stock.at ≡ first.at
  pub from : (right.at ≡ first.at) × (right.room ≡ size) × (right.alloc ≡ source)
  pub held : count ≡ length stock.items
  pub total : count + stock.free ≡ size
