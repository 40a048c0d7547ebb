-- Texts between quotes, character by character.
use Rattle.std.specs.Prelude.{◌≡◌, ◌⊎◌, ℕ, Bool, true, List, ◌∷◌, ◌++◌, Option, Some, None}
use Rattle.std.specs.Char.{IsScalar}
use Rattle.fill_print.specs.Reading.{ManyFrom}
use Rattle.fill_print.specs.Notation.{char_text}

-- a character, or the quote at the end, where the text may end
abbrev pub CharStep : Bool → Option ℕ → List ℕ → List ℕ → Type 0
CharStep may_end None s k = (may_end ≡ true) × (s ≡ 39 ∷ k)
CharStep may_end (Some c) s k = IsScalar c × (s ≡ char_text c ++ k)

abbrev pub and_then_may_end : Bool → ℕ → Bool
and_then_may_end may_end c = true

-- a text and the quote behind it
abbrev pub Quoted : Bool → List ℕ → List ℕ → List ℕ → Type 0
Quoted may_be_empty = ManyFrom CharStep and_then_may_end may_be_empty

-- a character that stands behind a backslash
abbrev pub Escaped : ℕ → List ℕ → List ℕ → Type 0
Escaped c s k = ((c ≡ 39) ⊎ (c ≡ 92)) × (s ≡ c ∷ k)
