-- Errors of reading.
use Rattle.std.specs.Prelude.{⊤}
use Rattle.csv.specs.declared.error.ErrorKind.{ErrorKind}
use Rattle.csv.specs.declared.error.ErrorKind.TheVariants as kind

-- an error of memory, or of the bytes' source; none of what the bytes are
abbrev pub IsOfMemory : ErrorKind → Type 0
IsOfMemory (kind.Io e) = ⊤
IsOfMemory kind.OutOfMemory = ⊤
IsOfMemory (kind.UnequalLengths pos expected len) = ⊥
IsOfMemory (kind.Utf8 pos err) = ⊥
IsOfMemory (kind.Serialize why) = ⊥
IsOfMemory (kind.Deserialize pos err) = ⊥
