-- What the words of the command line mean.
use Rattle.std.specs.Prelude.{◌≡◌, ◌==◌, ℕ, Bool, true, false, not, zero, suc, List, [], ◌∷◌, Option, Some, None, Result}
use Rattle.std.specs.Prelude.{◌++◌, ◌||◌, All, MatchResult, bytes_eq, codes, flat_map, length, map, min, nat_lt, option_and_then, option_map, take, unwrap_or, if◌then◌else◌, ⊤}
use Rattle.std.specs.List.{after_first, before_first, list_any, position_or_len, slice_split}
use Rattle.std.specs.Option.{option_map_or}
use Rattle.std.specs.Borrow.{Bor}
use Rattle.clap.specs.Words.{Kinds, Row, Text, all_of, fault_of, first_of, matches_of}
use Rattle.clap.specs.declared.error.kind.ErrorKind.{ErrorKind}
use Rattle.clap.specs.declared.error.kind.ErrorKind.TheVariants.{DisplayHelp, DisplayVersion}
use Rattle.fill_numbers.specs.Columns.{columns_in as numbers_of_columns}
use Rattle.fill_numbers.specs.Number.{number_in}
pub use Rattle.fillcsv_options.specs.Asked.{AskedData, IsLookup, Key, LookupData, New, SavedData, Table, TargetData, There, TypedData, data_of, lookup_data, saved_data, target_data, typed_data}
use Rattle.fillcsv_options.specs.Conflicts.{conflicts}
use Rattle.fillcsv_options.specs.declared.asked.Asked.{Asked}
use Rattle.fillcsv_options.specs.declared.asked.Depth.{Depth}
use Rattle.fillcsv_options.specs.declared.asked.Depth.TheVariants.{One, Two, Three}
use Rattle.fillcsv_options.specs.declared.asked.ProfileName.{ProfileName}
use Rattle.fillcsv_options.specs.declared.asked.ProfileName.TheVariants.{First, Second, Third}
use Rattle.fillcsv_options.specs.declared.asked.Order.{Order}
use Rattle.fillcsv_options.specs.declared.asked.Order.TheVariants as order
use Rattle.fillcsv_options.specs.declared.asked.Saved.{Saved}
use Rattle.fillcsv_options.specs.declared.reading.Chosen.{Chosen}
use Rattle.fillcsv_options.specs.declared.refusal.Refusal.{Refusal}
use Rattle.fillcsv_options.specs.declared.refusal.Refusal.TheVariants.{Shown, Usage, NoMemory}
use Rattle.fillcsv_options.specs.Options.{app, run_app}

-- words ask for a filled sheet, or for the run of a saved rule, or for help or the version, or they are wrong
pub data Meaning : Type 0 where
  Asks : AskedData → Meaning
  Runs : SavedData → Meaning
  Shows : Meaning
  Wrong : Meaning

-- ---- what each option means

-- the columns of a list, with a comma (44) between two
abbrev pub columns_in : Text → List Text
columns_in list = slice_split (λ b. b == 44) list

-- whether `--only` asks for the sure cells alone: it takes no word but `sure`
abbrev pub only_sure_in : Option Text → Option Bool
only_sure_in None = Some false
only_sure_in (Some word) = if bytes_eq word (codes "sure") then Some true else None

-- the language that `--profile` names: the third one without it
abbrev pub profile_in : Option Text → Option ProfileName
profile_in None = Some Third
profile_in (Some word) = if bytes_eq word (codes "1") then Some First
    else (if bytes_eq word (codes "2") then Some Second else (if bytes_eq word (codes "3") then Some Third else None))

-- how many lookups may stand inside each other: one without `--depth`
abbrev pub depth_in : Option Text → Option Depth
depth_in None = Some One
depth_in (Some word) = if bytes_eq word (codes "1") then Some One
    else (if bytes_eq word (codes "2") then Some Two else (if bytes_eq word (codes "3") then Some Three else None))

-- the column that is filled: `--to` names one that is there, or `--new` a new one, and not both
abbrev pub target_in : Option Text → Option Text → Option TargetData
target_in (Some column) None = Some (There column)
target_in None (Some name) = Some (New name)
target_in (Some column) (Some name) = None
target_in None None = None

-- whether cells in doubt are asked about: `--ask` reads the answers from standard input, so this (`-`) is not the sheet, and what
-- it asks is not quiet
abbrev pub ask_in : Bool → Bool → Option Text → Option Bool
ask_in false quiet file = Some false
ask_in true true file = None
ask_in true false None = Some true
ask_in true false (Some file) = if bytes_eq file (codes "-") then None else Some true

-- a row's number: a plain decimal that is not 0
abbrev pub counted_row : Option ℕ → Option ℕ
counted_row None = None
counted_row (Some zero) = None
counted_row (Some (suc above)) = Some (suc above)

abbrev pub row_in : Text → Option ℕ
row_in word = counted_row (number_in word)

-- the example of a row and a text
abbrev pub typed_of : Text → Option ℕ → Option TypedData
typed_of text None = None
typed_of text (Some row) = Some (record { row = row; text = text })

-- the example of a word: a row's number up to the first `=` (61), and after it a text, which may be empty
abbrev pub example_in : Text → Option TypedData
example_in word = if nat_lt (position_or_len (λ b. b == 61) word) (length word)
    then typed_of (after_first (λ b. b == 61) word) (row_in (before_first (λ b. b == 61) word)) else None

-- examples with one more, for a row that has none yet
abbrev pub with_example : List TypedData → TypedData → Option (List TypedData)
with_example before e = if list_any (λ other. other.row == e.row) before then None else Some (before ++ e ∷ [])

-- examples with that of one more word
abbrev pub with_word : List TypedData → Text → Option (List TypedData)
with_word before word = option_and_then (with_example before) (example_in word)

-- examples with those of more words, one after the other
abbrev pub with_words : List TypedData → List Text → Option (List TypedData)
with_words before [] = Some before
with_words before (word ∷ more) = option_and_then (λ now. with_words now more) (with_word before word)

-- the examples of words: each gives one, and no two of them are for one row
abbrev pub examples_in : List Text → Option (List TypedData)
examples_in words = with_words [] words

-- ---- tables

-- what words give, each one thing, after others
abbrev pub added : {D : Type 0} → (Text → Option D) → List D → List Text → Option (List D)
added one before [] = Some before
added one before (word ∷ more) = option_and_then (λ x. added one (before ++ x ∷ []) more) (one word)

-- the table of a word: its name up to the first `=` (61), and after it the path of its file
abbrev pub table_in : Text → Option LookupData
table_in word = if nat_lt (position_or_len (λ b. b == 61) word) (length word)
    then Some (Table (before_first (λ b. b == 61) word) (after_first (λ b. b == 61) word)) else None

-- the key of a word: a table's name up to the first `:` (58), and after it the numbers of one to three of its columns
abbrev pub key_in : Text → Option LookupData
key_in word = if nat_lt (position_or_len (λ b. b == 58) word) (length word)
    then option_map (Key (before_first (λ b. b == 58) word)) (numbers_of_columns 0 3 4294967295 (columns_in (after_first (λ b. b == 58) word))) else None

-- the tables of words, and then the keys of others
abbrev pub lookups_in : List Text → List Text → Option (List LookupData)
lookups_in tables keys = option_and_then (λ before. added key_in before keys) (added table_in [] tables)

-- ---- all options

-- the value of an option
abbrev pub text_of : Text → List Row → Text
text_of id rows = unwrap_or (first_of id rows) []

-- a flag is among the words
abbrev pub is_set : Text → List Row → Bool
is_set id rows = option_map_or (λ text. bytes_eq text (codes "true")) (first_of id rows) false

-- the values of an option that may stand several times
abbrev pub texts_of : Text → List Row → List Text
texts_of id rows = unwrap_or (all_of id rows) []

-- what the options say that not every word is a value of
pub record ChosenData : Type 0 where
  pub only_sure : Bool
  pub profile : ProfileName
  pub depth : Depth
  pub to : TargetData
  pub examples : List TypedData
  pub lookups : List LookupData
  pub ask : Bool

abbrev pub data_in : List Row → ChosenData → AskedData
data_in rows chosen = record {
  file = text_of (codes "FILE") rows;
  to = chosen.to;
  from = flat_map columns_in (texts_of (codes "from") rows);
  header = not (is_set (codes "no-header") rows);
  examples = chosen.examples;
  replace = is_set (codes "replace") rows;
  lookups = chosen.lookups;
  depth = chosen.depth;
  states = is_set (codes "state") rows;
  only_sure = chosen.only_sure;
  profile = chosen.profile;
  quiet = is_set (codes "quiet") rows;
  explain = is_set (codes "explain") rows;
  ask = chosen.ask;
  strict = is_set (codes "strict") rows;
  save = first_of (codes "save-rule") rows;
}

abbrev pub chosen_data : Chosen → ChosenData
chosen_data c = record {
  only_sure = c.only_sure;
  profile = c.profile;
  depth = c.depth;
  to = target_data c.to;
  examples = map typed_data c.examples.items;
  lookups = map lookup_data c.lookups.items;
  ask = c.ask;
}

-- these values, where there are all of them
abbrev pub chosen : Option Bool → Option ProfileName → Option Depth → Option TargetData → Option (List TypedData) → Option (List LookupData) → Option Bool → Option ChosenData
chosen (Some only_sure) (Some profile) (Some depth) (Some to) (Some examples) (Some lookups) (Some ask) =
    Some (record { only_sure = only_sure; profile = profile; depth = depth; to = to; examples = examples; lookups = lookups; ask = ask })
chosen _ _ _ _ _ _ _ = None

abbrev pub chosen_in : List Row → Option ChosenData
chosen_in rows = chosen (only_sure_in (first_of (codes "only") rows)) (profile_in (first_of (codes "profile") rows)) (depth_in (first_of (codes "depth") rows))
    (target_in (first_of (codes "to") rows) (first_of (codes "new") rows)) (examples_in (texts_of (codes "example") rows))
    (lookups_in (texts_of (codes "table") rows) (texts_of (codes "key") rows))
    (ask_in (is_set (codes "ask") rows) (is_set (codes "quiet") rows) (first_of (codes "FILE") rows))

-- what is asked for, if its options go together
abbrev pub meaning_of_asked : AskedData → Meaning
meaning_of_asked asked = if conflicts asked then Wrong else Asks asked

abbrev pub meaning_by : List Row → Option ChosenData → Meaning
meaning_by rows None = Wrong
meaning_by rows (Some chosen) = meaning_of_asked (data_in rows chosen)

-- the meaning of words that `clap` takes, by what it matches
abbrev pub meaning_of_rows : List Row → Meaning
meaning_of_rows rows = meaning_by rows (chosen_in rows)

-- ---- words

abbrev pub meaning_of_kind : ErrorKind → Meaning
meaning_of_kind DisplayHelp = Shows
meaning_of_kind DisplayVersion = Shows
meaning_of_kind _ = Wrong

-- the meaning of words that `clap` takes, or that it refuses for the first of these kinds
abbrev pub meaning_of : (List Row → Meaning) → Kinds → List Row → Meaning
meaning_of taken [] rows = taken rows
meaning_of taken (kind ∷ kinds) rows = meaning_of_kind kind

-- what words mean that ask for a filled sheet: what `clap` makes of them at these options
unfoldable pub sheet_meaning : List Text → Meaning
sheet_meaning words = meaning_of meaning_of_rows (fault_of app words) (matches_of app words)

-- the run that the words ask for which `clap` takes
abbrev pub run_of_rows : List Row → Meaning
run_of_rows rows = Runs (record { rule = text_of (codes "rule") rows; quiet = is_set (codes "quiet") rows })

-- what words mean that ask for the run of a saved rule
unfoldable pub run_meaning : List Text → Meaning
run_meaning words = meaning_of run_of_rows (fault_of run_app words) (matches_of run_app words)

-- a word that names a saved rule: `--rule`, or `--rule=` and the path of its file
abbrev pub is_rule_word : Text → Bool
is_rule_word word = bytes_eq word (codes "--rule") || bytes_eq (take (min 7 (length word)) word) (codes "--rule=")

-- what the words after the program's name mean
unfoldable pub asked_in : List Text → Meaning
asked_in words = if list_any is_rule_word words then run_meaning words else sheet_meaning words

-- ---- answers

-- the refusal says what the words mean, or that memory ran out
abbrev pub IsRefusedBy : Meaning → Refusal → Type 0
IsRefusedBy meaning (Shown text) = meaning ≡ Shows
IsRefusedBy meaning (Usage text) = meaning ≡ Wrong
IsRefusedBy meaning NoMemory = ⊤

-- the answer says what the words mean, or that memory ran out
abbrev pub Answers : Meaning → Result Asked Refusal → Type 0
Answers meaning result = MatchResult result (λ asked. meaning ≡ Asks (data_of asked)) (IsRefusedBy meaning)

-- a refusal exactly where options do not go together
abbrev pub RefusesConflict : Bool → Option Refusal → Type 0
RefusesConflict conflict None = conflict ≡ false
RefusesConflict conflict (Some why) = (conflict ≡ true) × IsRefusedBy Wrong why

abbrev pub AnswersRun : Meaning → Result Saved Refusal → Type 0
AnswersRun meaning result = MatchResult result (λ saved. meaning ≡ Runs (saved_data saved)) (IsRefusedBy meaning)

-- what an order means
abbrev pub order_meaning : Order → Meaning
order_meaning (order.Fill asked) = Asks (data_of asked)
order_meaning (order.Run saved) = Runs (saved_data saved)

abbrev pub AnswersOrder : Meaning → Result Order Refusal → Type 0
AnswersOrder meaning result = MatchResult result (λ order. meaning ≡ order_meaning order) (IsRefusedBy meaning)

-- the tables and keys of an order are proper
abbrev pub IsProper : Order → Type 0
IsProper (order.Fill asked) = All IsLookup (map lookup_data asked.lookups.items)
IsProper (order.Run saved) = ⊤

-- the refusal says that a part of the words means nothing, or that memory ran out
abbrev pub RefusesPart : {D : Type 0} → Option D → Refusal → Type 0
RefusesPart meaning (Shown text) = ⊥
RefusesPart meaning (Usage text) = meaning ≡ None
RefusesPart meaning NoMemory = ⊤

-- a row and a text, where the word gives them
abbrev pub Parts : Option TypedData → Option (ℕ × Bor Text) → Type 0
Parts meaning None = meaning ≡ None
Parts meaning (Some parts) = meaning ≡ Some (record { row = parts.0; text = parts.1.now })
