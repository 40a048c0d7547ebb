-- What is told between two states of a sink.
use Rattle.std.specs.Prelude.{ℕ, ◌≤◌, List, Option}
use Rattle.std.specs.Io.KnownBytes.{Appends}

-- known bytes grew by some, and no failed write was forgotten
pub record Grew (old new : Option (List ℕ)) (before now : ℕ) : Type 0 where
  pub grown : (more : List ℕ) × Appends old new more
  pub later : before ≤ now
