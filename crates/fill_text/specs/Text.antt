-- Texts and names as lists of characters.
use Rattle.std.specs.Prelude.{ℕ, List, ⊤}
use Rattle.std.specs.Str.{IsValidUpTo}
use Rattle.fill_text.specs.declared.error.TextError.{TextError}
use Rattle.fill_text.specs.declared.error.TextError.TheVariants.{NotUtf8, NoMemory}

-- these bytes are refused: their longest prefix that is UTF-8 ends before they do. Out of memory is free
abbrev pub Refuses : List ℕ → TextError → Type 0
Refuses bytes (NotUtf8 at) = IsValidUpTo bytes at
Refuses bytes NoMemory = ⊤
