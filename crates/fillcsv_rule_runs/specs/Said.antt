-- What is said on a sink.
use Rattle.std.specs.Prelude.{◌⊎◌, ℕ, List, Option}
use Rattle.std.specs.Io.KnownBytes.{Appends}
use Rattle.fill_edge.specs.Outside.{AppendsPart, Rose}

-- the line was written, or a proper prefix of it where a write failed
abbrev pub Says : Option (List ℕ) → Option (List ℕ) → ℕ → ℕ → List ℕ → Type 0
Says old new before now line = Appends old new line ⊎ (Rose before now × AppendsPart old new line)
