-- How the slices of a pool lie in its chunks.
use Rattle.std.specs.Prelude.{◌≡◌, ℕ, ◌+◌, ◌-◌, ◌<◌, ◌≤◌, List, [], map, fold, length, get_or, slice_range, All}
use Rattle.std.specs.List.{AllPairs}
use Rattle.fill_pool.specs.declared.chunk.Chunk.{Chunk}
use Rattle.fill_pool.specs.declared.pool.Extent.{Extent}
use Rattle.fill_pool.specs.Chunk.{held, size}

-- in the order of making: what comes later lies in the same chunk, no further to the front, or in a later one
pub record Precedes (e f : Extent) : Type 0 where
  pub chunk : e.chunk ≤ f.chunk
  pub end : e.chunk ≡ f.chunk → e.to ≤ f.to

-- the number of chunks up to that of the last slice
abbrev pub reached : List Extent → ℕ
reached es = fold (λ n e. e.chunk + 1) 0 es

-- below, xss lists what each chunk holds
module _ {X : Type 0} where
  abbrev pub all_held : List (Chunk X) → List (List X)
  all_held chunks = map held chunks

  abbrev pub row_of : List (List X) → ℕ → List X
  row_of xss k = get_or xss k []

  -- the items of an extent
  abbrev pub items_at : List (List X) → Extent → List X
  items_at xss e = slice_range (row_of xss e.chunk) e.from e.to

  -- all slices, in the order of making
  abbrev pub slices_of : List (List X) → List Extent → List (List X)
  slices_of xss es = map (items_at xss) es

  pub record IsWithin (xss : List (List X)) (e : Extent) : Type 0 where
    pub chunk : e.chunk < length xss
    pub order : e.from ≤ e.to
    pub end : e.to ≤ length (row_of xss e.chunk)

  -- each extent lies within its chunk, they lie in the order of making, and no chunk lies past the last of them
  pub record AreLaid (xss : List (List X)) (es : List Extent) : Type 0 where
    pub within : All (IsWithin xss) es
    pub in_order : AllPairs Precedes es
    pub used : length xss ≡ reached es

  -- the same chunks, or with one more, which is empty; the last takes n more items
  pub record HasRoom (old new : List (Chunk X)) (n : ℕ) : Type 0 where
    pub some : 0 < length new
    pub fewer : length old ≤ length new
    pub same : (k : ℕ) → row_of (all_held new) k ≡ row_of (all_held old) k
    pub room : (d : Chunk X) → let last = get_or new (length new - 1) d in length (held last) + n ≤ size last
