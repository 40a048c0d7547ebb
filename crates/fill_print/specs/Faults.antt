-- Texts of conditional programs by tokens of a set, and how far bytes are the front of one.
use Rattle.std.specs.Prelude.{◌≡◌, ℕ, ◌≤◌, List, ◌++◌, length, take, Result, Ok, Err}
use Rattle.fill_tokens.specs.declared.token_set.TokenSet.{TokenSet}
use Rattle.fill_tree.specs.Switch.{SwitchTree, switch_tree}
use Rattle.fill_tree.specs.declared.guard.Switch.{Switch}
use Rattle.fill_print.specs.Notation.{switch_text}
use Rattle.fill_print.specs.Rules.{IsSwitch}
use Rattle.fill_print.specs.declared.read.error.ReadProgramError.{ReadProgramError}
use Rattle.fill_print.specs.declared.read.error.ReadProgramError.TheVariants.{Bad, NoMemory}

-- the bytes are the text of this conditional program, which keeps the rules
abbrev pub IsTextOf : TokenSet → List ℕ → SwitchTree → Type 0
IsTextOf token_set bytes s = IsSwitch token_set s × (bytes ≡ switch_text s)

-- some text begins with these bytes
abbrev pub IsFront : TokenSet → List ℕ → Type 0
IsFront token_set front = (s : SwitchTree) × (rest : List ℕ) × IsSwitch token_set s × (switch_text s ≡ front ++ rest)

-- the bytes are no text, and the first `at` of them are the longest prefix with which a text begins
pub record IsFault (token_set : TokenSet) (bytes : List ℕ) (at : ℕ) : Type 0 where
  pub none : (s : SwitchTree) → IsTextOf token_set bytes s → ⊥
  pub within : at ≤ length bytes
  pub front : IsFront token_set (take at bytes)
  pub longest : (n : ℕ) → n ≤ length bytes → IsFront token_set (take n bytes) → n ≤ at

-- why bytes are refused. Out of memory is free
abbrev pub Refuses : TokenSet → List ℕ → ReadProgramError → Type 0
Refuses token_set bytes (Bad at) = IsFault token_set bytes at
Refuses token_set bytes NoMemory = Unit {0}

-- what comes of reading this one's text: itself, unless memory ran out
abbrev pub ReadsBack : SwitchTree → Result Switch ReadProgramError → Type 0
ReadsBack s (Ok x) = switch_tree x ≡ s
ReadsBack s (Err e) = e ≡ NoMemory
