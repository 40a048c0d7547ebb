-- The byte order mark, byte by byte.
use Rattle.std.proofs.Common.{◌≡◌, ◌<◌, ℕ, List}
use Rattle.std.specs.Prelude.{slice_get}
use Rattle.fillcsv_run.specs.Opening.{mark}

-- the first bytes are those of the mark
pub record IsMarkedUpTo (bytes : List ℕ) (n : ℕ) : Type 0 where
  pub same : (k : ℕ) → k < n → slice_get bytes k ≡ slice_get mark k
