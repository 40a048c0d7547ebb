-- Texts with their numbers among those of a row.
use Rattle.std.specs.Prelude.{◌≡◌, ℕ, List, Option, None, Some, slice_get}
use Rattle.fill_doubt.specs.Answers.{Have}
use Rattle.fill_doubt.specs.declared.numbered.Numbered.{Numbered}
use Rattle.fill_doubt.specs.declared.numbered.NumberedTexts.{NumberedTexts}
use Rattle.fill_doubt.specs.declared.shaped.Shaped.{Shaped}

abbrev pub NumberedHave : NumberedTexts → Option (List ℕ) → Type 0
NumberedHave f = Have (λ x. x.text.now) f.texts.items f.none

-- the text is the one of this number
abbrev pub HasNumber : List Shaped → List ℕ → ℕ → Type 0
HasNumber texts t n = (x : Shaped) × (slice_get texts n ≡ Some x) × (x.text.now ≡ t)

-- the number, if there is one, is the text's
abbrev pub IsNumber : List Shaped → List ℕ → Option ℕ → Type 0
IsNumber texts t None = Unit {0}
IsNumber texts t (Some n) = HasNumber texts t n

-- each text has its number
pub record AreNumbered (texts : List Shaped) (f : NumberedTexts) : Type 0 where
  pub each : (i : ℕ) (x : Numbered) → slice_get f.texts.items i ≡ Some x → IsNumber texts x.text.now x.number

-- texts keep their numbers
pub record KeepsNumbers (old new : List Shaped) : Type 0 where
  pub kept : (t : List ℕ) (n : ℕ) → HasNumber old t n → HasNumber new t n
