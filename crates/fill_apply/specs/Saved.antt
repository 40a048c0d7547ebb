-- The conditional program that a report saves: that of the last record that shows one.
use Rattle.std.specs.Prelude.{◌≡◌, ℕ, ◌==◌, ◌&&◌, List, [], ◌∷◌, length, reverse, Bool, Option, None, Some, Result, Ok, Err, codes}
use Rattle.std.specs.List.{find, flat_map}
use Rattle.std.specs.Str.{bytes_eq}
use Rattle.fill_records.specs.Records.{field_of, records_of}
use Rattle.fill_tokens.specs.declared.token_set.TheConstants.TokenSet as set
use Rattle.fill_tokens.specs.declared.token_set.TokenSet.{TokenSet}
use Rattle.fill_tree.specs.Switch.{CaseTree, SwitchTree}
use Rattle.fill_print.specs.Faults.{IsFault, IsTextOf}
use Rattle.fill_apply.specs.Columns.{IsFirstOther, guard_columns}
use Rattle.fill_apply.specs.declared.error.ApplyError.{ApplyError}
use Rattle.fill_apply.specs.declared.error.ApplyError.TheVariants as error

-- a record that shows a conditional program: the word, and the text, which is empty where there was no program
abbrev pub is_shown : List (List ℕ) → Bool
is_shown fields = (length fields == 2) && bytes_eq (field_of 1 fields) (codes "switch")

-- the text that a record shows
abbrev pub text_of : Option (List (List ℕ)) → List ℕ
text_of None = []
text_of (Some fields) = field_of 2 fields

-- the text that the last of the records that show one shows
abbrev pub shown_text : List (List (List ℕ)) → List ℕ
shown_text records = text_of (find is_shown (reverse records))

-- the columns that guards read, in the order of the cases and of a guard's literals
abbrev pub columns_read : List CaseTree → List ℕ
columns_read cases = flat_map (λ c. guard_columns c.guard) cases

-- what comes of a text that is not empty, for sheets with these inputs: the conditional program that it spells by the
-- tokens of a set and whose guards read inputs alone, or why there is none. Out of memory is of no text
abbrev pub SpelledBy : TokenSet → List ℕ → List ℕ → Result SwitchTree ApplyError → Type 0
SpelledBy tokens inputs text (Ok s) = IsTextOf tokens text s × IsFirstOther inputs (columns_read s.cases) None
SpelledBy tokens inputs text (Err error.NoSwitch) = ⊥
SpelledBy tokens inputs text (Err (error.BadSwitch at)) = IsFault tokens text at
SpelledBy tokens inputs text (Err (error.NoInput column)) = (s : SwitchTree) × IsTextOf tokens text s × IsFirstOther inputs (columns_read s.cases) (Some column)
SpelledBy tokens inputs text (Err error.NoMemory) = ⊥

-- what comes of the text that is shown
abbrev pub TextBy : TokenSet → List ℕ → List ℕ → Result SwitchTree ApplyError → Type 0
TextBy tokens inputs [] r = r ≡ Err error.NoSwitch
TextBy tokens inputs (c ∷ more) r = SpelledBy tokens inputs (c ∷ more) r

-- what comes of a file's bytes
abbrev pub SavedBy : TokenSet → List ℕ → List ℕ → Result SwitchTree ApplyError → Type 0
SavedBy tokens inputs bytes r = TextBy tokens inputs (shown_text (records_of bytes)) r

-- the same of a report, which spells programs by the specified tokens
abbrev pub SpelledIs : List ℕ → List ℕ → Result SwitchTree ApplyError → Type 0
SpelledIs inputs text r = SpelledBy set.SECOND inputs text r

abbrev pub TextIs : List ℕ → List ℕ → Result SwitchTree ApplyError → Type 0
TextIs inputs text r = TextBy set.SECOND inputs text r

abbrev pub SavedIs : List ℕ → List ℕ → Result SwitchTree ApplyError → Type 0
SavedIs inputs bytes r = SavedBy set.SECOND inputs bytes r
