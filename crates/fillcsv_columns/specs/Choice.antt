-- Which column is filled, and which ones rules may read.
use Rattle.std.specs.Prelude.{◌≡◌, ℕ, ◌+◌, ◌==◌, not, List, [], ◌∷◌, ◌++◌, length, take, filter, Result, Ok, Err, if◌then◌else◌, nat_le, min}
use Rattle.std.specs.List.{list_any, range_with_len}
use Rattle.fill_sheet.specs.declared.columns.TheConstants.{LAST_COLUMN, MOST_INPUTS}
use Rattle.fillcsv_columns.specs.Columns.{column_in, named}
use Rattle.fillcsv_columns.specs.declared.choice.Choice.{Choice}
use Rattle.fillcsv_columns.specs.declared.error.ColumnError.{ColumnError}
use Rattle.fillcsv_columns.specs.declared.error.ColumnError.TheVariants as column
use Rattle.fillcsv_columns.specs.declared.error.ChoiceError.{ChoiceError}
use Rattle.fillcsv_columns.specs.declared.error.ChoiceError.TheVariants as choice

-- the column that is filled, and those that rules may read
pub record ChoiceData : Type 0 where
  pub to : ℕ
  pub from : List ℕ

-- what a choice of the code stands for
abbrev pub choice_data : Choice → ChoiceData
choice_data c = record { to = c.to; from = c.from.items }

-- why words choose no columns: a word names none or several, or one that is filled or named before; a new column is there
-- already, or a thousand others are; or there are too many columns to read, or none
pub data Refusal : Type 0 where
  Missing : List ℕ → Refusal
  Ambiguous : List ℕ → Refusal
  Filled : List ℕ → Refusal
  Again : List ℕ → Refusal
  Present : List ℕ → Refusal
  Full : Refusal
  TooMany : Refusal
  Nothing : Refusal

-- the refusal of the code tells this one; out of memory is free
abbrev pub Refuses : {A : Type 0} → Result A Refusal → ChoiceError → Type 0
Refuses r (choice.Missing word) = r ≡ Err (Missing word.now)
Refuses r (choice.Ambiguous word) = r ≡ Err (Ambiguous word.now)
Refuses r (choice.Filled word) = r ≡ Err (Filled word.now)
Refuses r (choice.Again word) = r ≡ Err (Again word.now)
Refuses r (choice.Present word) = r ≡ Err (Present word.now)
Refuses r choice.Full = r ≡ Err Full
Refuses r choice.TooMany = r ≡ Err TooMany
Refuses r choice.Nothing = r ≡ Err Nothing
Refuses r choice.NoMemory = Unit {0}

-- the further choice, where the earlier one was made
abbrev pub further : {A B : Type 0} → (A → Result B Refusal) → Result A Refusal → Result B Refusal
further rest (Ok x) = rest x
further rest (Err e) = Err e

-- the column of a word, or why it names none
abbrev pub of_word : List ℕ → Result ℕ ColumnError → Result ℕ Refusal
of_word word (Ok n) = Ok n
of_word word (Err column.Missing) = Err (Missing word)
of_word word (Err column.Ambiguous) = Err (Ambiguous word)
of_word word (Err column.NoMemory) = Err (Missing word)

-- the column that a word chooses
abbrev pub chosen : List (List ℕ) → ℕ → List ℕ → Result ℕ Refusal
chosen names width word = of_word word (column_in names width word)

-- the number of a new column after the last one, where these columns have its name
abbrev pub new_among : List ℕ → ℕ → List ℕ → Result ℕ Refusal
new_among [] width name = if nat_le LAST_COLUMN width then Err Full else Ok (width + 1)
new_among (column ∷ more) width name = Err (Present name)

-- the new column of a name, after all others
abbrev pub new_column : List (List ℕ) → ℕ → List ℕ → Result ℕ Refusal
new_column names width name = new_among (named name 1 names) width name

-- one more column to read, which a word names: another one than that which is filled, named once, and the eighth at most
abbrev pub one_more : ℕ → List ℕ → List ℕ → ℕ → Result (List ℕ) Refusal
one_more to before word n =
    if n == to then Err (Filled word) else
    if list_any (λ other. other == n) before then Err (Again word) else
    if nat_le MOST_INPUTS (length before) then Err TooMany else Ok (before ++ n ∷ [])

-- the columns to read with that of one more word
abbrev pub with_word : List (List ℕ) → ℕ → ℕ → List ℕ → List ℕ → Result (List ℕ) Refusal
with_word names width to before word = further (one_more to before word) (chosen names width word)

-- the columns to read with those of more words, one after the other
abbrev pub with_words : List (List ℕ) → ℕ → ℕ → List ℕ → List (List ℕ) → Result (List ℕ) Refusal
with_words names width to before [] = Ok before
with_words names width to before (word ∷ more) = further (λ now. with_words names width to now more) (with_word names width to before word)

-- all columns but the one that is filled, the first eight of them
abbrev pub others : ℕ → ℕ → List ℕ
others width to = take MOST_INPUTS (filter (λ n. not (n == to)) (range_with_len 1 (min width LAST_COLUMN)))

abbrev pub some_of : List ℕ → Result (List ℕ) Refusal
some_of [] = Err Nothing
some_of (n ∷ more) = Ok (n ∷ more)

-- the columns to read: those of the words, or without words all others
abbrev pub sources_in : List (List ℕ) → ℕ → ℕ → List (List ℕ) → Result (List ℕ) Refusal
sources_in names width to [] = some_of (others width to)
sources_in names width to (word ∷ more) = with_words names width to [] (word ∷ more)

-- the choice of a column to fill
abbrev pub choice_with : List (List ℕ) → ℕ → List (List ℕ) → ℕ → Result ChoiceData Refusal
choice_with names width from to = further (λ sources. Ok (record { to = to; from = sources })) (sources_in names width to from)

-- the columns that words choose in a sheet with these names and this many columns: the one to fill, and those to read
abbrev pub choice_in : List (List ℕ) → ℕ → List ℕ → List (List ℕ) → Result ChoiceData Refusal
choice_in names width to from = further (choice_with names width from) (chosen names width to)

-- the same where a new column of this name is filled
abbrev pub choice_after : List (List ℕ) → ℕ → List ℕ → List (List ℕ) → Result ChoiceData Refusal
choice_after names width name from = further (choice_with names width from) (new_column names width name)
