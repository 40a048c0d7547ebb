-- How lines are cut off.
use Rattle.std.specs.Prelude.{◌≡◌, ℕ, ◌==◌, ◌<◌, All, Bool, false, List, ◌∷◌, ◌++◌, Option, length, slice_index, take}
use Rattle.std.specs.Str.Lines.{lines}
use Rattle.std.specs.Io.KnownBytes.{IsAtEnd, Keeps}
use Rattle.fill_edge.specs.Outside.{Rose}
use Rattle.fillcsv_dialogue.specs.declared.lines.More.{More}
use Rattle.fillcsv_dialogue.specs.declared.lines.More.TheVariants.{Bytes, Failed, Nothing}

-- the byte ends a line
abbrev pub is_newline : ℕ → Bool
is_newline b = b == 10

-- the place is that of the first byte that ends a line
pub record IsFirstEnd (bytes : List ℕ) (at : ℕ) : Type 0 where
  pub inside : at < length bytes
  pub none : All (λ b. is_newline b ≡ false) (take at bytes)
  pub here : slice_index bytes at ≡ 10

-- the first line of bytes and what follows it, whatever comes after them
pub record IsCut (bytes line rest : List ℕ) : Type 0 where
  pub cut : (more : List ℕ) → lines (bytes ++ more) ≡ line ∷ lines (rest ++ more)

-- what a read did to the bytes that are held, to all that are to come, to those that the source has left, and to the count of failed
-- reads
abbrev pub Reads : More → List ℕ → List ℕ → Option (List ℕ) → Option (List ℕ) → Option (List ℕ) → ℕ → ℕ → Type 0
Reads Bytes old new come now left before after = Keeps come now × (after ≡ before)
Reads Nothing old new come now left before after = Keeps come now × (after ≡ before) × (new ≡ old) × IsAtEnd left
Reads Failed old new come now left before after = Rose before after
