-- The commands, and which words are one.
use Rattle.std.specs.Prelude.{ℕ, ◌==◌, ◌||◌, ◌≤◌, List, [], ◌∷◌, length, Option, Some, None, if◌then◌else◌, codes, option_map, ⊤}
use Rattle.std.specs.Str.{bytes_eq}
use Rattle.fill_numbers.specs.Columns.{number_between}
use Rattle.fill_open.specs.Apply.{Names, named}
use Rattle.fill_open.specs.declared.command.TheConstants.{MOST_MADE_LINES}
use Rattle.fill_open.specs.declared.command.Command.{Command}
use Rattle.fill_open.specs.declared.command.Command.TheVariants.{Replay, Made, Apply, Keys}

-- a command: the replay of the session of a name, or that of the generated session of a number of lines; the application of
-- a saved program; or the listing of the keys of a file's table
pub data CommandData : Type 0 where
  replay : List ℕ → CommandData
  made : ℕ → CommandData
  apply : Names → CommandData
  keys : List ℕ → CommandData

-- what a command of the code stands for
abbrev pub command_data : Command → CommandData
command_data (Replay session) = replay session.now
command_data (Made n) = made n
command_data (Apply session program sheet) = apply (named session.now program.now sheet.now)
command_data (Keys file) = keys file.now

-- a generated session has one line at least, and no more than there may be
abbrev pub made_of : List ℕ → Option CommandData
made_of bytes = option_map made (number_between 1 MOST_MADE_LINES bytes)

-- the command of a word and a name, which is not empty
abbrev pub with_name : List ℕ → List ℕ → Option CommandData
with_name word name = if length name == 0 then None
    else (if bytes_eq word (codes "replay") then Some (replay name) else if bytes_eq word (codes "keys") then Some (keys name) else None)

-- the command of a word and its argument
abbrev pub with_argument : List ℕ → List ℕ → Option CommandData
with_argument word argument = if bytes_eq word (codes "made") then made_of argument else with_name word argument

-- none of the names is empty
abbrev pub apply_of : List ℕ → List ℕ → List ℕ → Option CommandData
apply_of session program sheet =
    if (length session == 0 || length program == 0) || length sheet == 0 then None else Some (apply (named session program sheet))

-- the command of a word and three names
abbrev pub with_names : List ℕ → List ℕ → List ℕ → List ℕ → Option CommandData
with_names word session program sheet = if bytes_eq word (codes "apply") then apply_of session program sheet else None

-- the command of these words
abbrev pub command_in : List (List ℕ) → Option CommandData
command_in [] = None
command_in (word ∷ []) = None
command_in (word ∷ argument ∷ []) = with_argument word argument
command_in (word ∷ a ∷ b ∷ []) = None
command_in (word ∷ session ∷ program ∷ sheet ∷ []) = with_names word session program sheet
command_in (word ∷ a ∷ b ∷ c ∷ next ∷ more) = None

-- a generated session's number of lines is in its range
abbrev pub IsCommand : CommandData → Type 0
IsCommand (replay session) = ⊤
IsCommand (made n) = (1 ≤ n) × (n ≤ MOST_MADE_LINES)
IsCommand (apply names) = ⊤
IsCommand (keys file) = ⊤
