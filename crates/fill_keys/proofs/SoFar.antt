-- What the loops of the search have listed so far.
use Rattle.std.proofs.Common.{ℕ, ◌<◌, List, [], ◌∷◌, ◌++◌, length}
use Rattle.fill_text.specs.Data.{TableData}
use Rattle.fill_keys.specs.Keys.{IsMinimalKey}
use Rattle.fill_keys.specs.Search.{BeginsMinimalKey}

-- a minimal key of this size whose first columns are these, and then one before the end
abbrev pub GoesOnBefore : List TableData → ℕ → ℕ → List ℕ → ℕ → List ℕ → Type 0
GoesOnBefore tables table size columns end key = (column : ℕ) × (column < end) × BeginsMinimalKey tables table size (columns ++ column ∷ []) key

-- a minimal key of fewer columns than this
abbrev pub IsSmaller : List TableData → ℕ → ℕ → List ℕ → Type 0
IsSmaller tables table size key = IsMinimalKey tables table key × (length key < size)
