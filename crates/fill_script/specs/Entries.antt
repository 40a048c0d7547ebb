-- The lines after `begin`.
use Rattle.std.specs.Prelude.{ℕ, ◌+◌, ◌==◌, ◌≤◌, ⊤, List, [], ◌∷◌, length, Option, Some, None, Result, Ok, Err, if◌then◌else◌, codes, option_map}
use Rattle.std.specs.Str.{chars}
use Rattle.fill_records.specs.Records.{field_of}
use Rattle.fill_tree.specs.declared.user.Edit.TheVariants.{Add, Correct, Retract, Clear}
use Rattle.fill_tree.specs.declared.user.TheConstants.{MOST_PROGRAMS}
use Rattle.fill_numbers.specs.Columns.{is_word, number_between}
use Rattle.fill_script.specs.Line.{is_text}
use Rattle.fill_numbers.specs.Number.{number_in}
use Rattle.fill_script.specs.Opening.{onward}
use Rattle.fill_script.specs.declared.error.ScriptError.{ScriptError}
use Rattle.fill_script.specs.declared.error.ScriptError.TheVariants as error
use Rattle.fill_script.specs.declared.script.Entry.{Entry}
use Rattle.fill_script.specs.declared.script.Entry.TheVariants as entry

-- an entry of a line of the word alone
abbrev pub alone : Entry → List (List ℕ) → Option Entry
alone e line = if length line == 1 then Some e else None

-- the row of a line of two fields
abbrev pub row_in : List (List ℕ) → Option ℕ
row_in line = if length line == 2 then number_in (field_of 2 line) else None

-- the row and the text of a line of three fields
abbrev pub row_text_in : List (List ℕ) → Option (ℕ × List ℕ)
row_text_in line = if length line == 3 then option_map (λ row. (row, chars (field_of 3 line))) (number_in (field_of 2 line)) else None

-- the branch and how many programs of it are asked for
abbrev pub best_of : Option ℕ → Option ℕ → Option Entry
best_of (Some branch) (Some k) = Some (entry.Best branch k)
best_of (Some branch) None = None
best_of None k = None

-- the branch and the number of programs of a line of three fields
abbrev pub best_in : List (List ℕ) → Option Entry
best_in line = if length line == 3 then best_of (number_in (field_of 2 line)) (number_between 1 MOST_PROGRAMS (field_of 3 line)) else None

-- what a line that leaves the examples asks for
abbrev pub question_in : List (List ℕ) → Option Entry
question_in line =
    if is_word (codes "programs") line then alone entry.Programs line
    else if is_word (codes "switch") line then alone entry.Switch line
    else if is_word (codes "fill") line then alone entry.Fill line
    else if is_word (codes "count") line then alone entry.Count line
    else if is_word (codes "answer") line then option_map entry.Answer (row_in line)
    else if is_word (codes "object") line then option_map entry.Object (row_in line)
    else if is_word (codes "best") line then best_in line
    else None

-- what a line after `begin` asks for
abbrev pub entry_in : List (List ℕ) → Option Entry
entry_in line =
    if is_word (codes "add") line then option_map (λ given. entry.Edit (Add given.0 given.1)) (row_text_in line)
    else if is_word (codes "correct") line then option_map (λ given. entry.Edit (Correct given.0 given.1)) (row_text_in line)
    else if is_word (codes "retract") line then option_map (λ row. entry.Edit (Retract row)) (row_in line)
    else if is_word (codes "clear") line then alone (entry.Edit Clear) line
    else if is_word (codes "undo") line then alone entry.Undo line
    else if is_word (codes "redo") line then alone entry.Redo line
    else question_in line

abbrev pub understood : ℕ → Option Entry → Result Entry ScriptError
understood number None = Err (error.BadRecord number)
understood number (Some e) = Ok e

-- what the line of a number asks for
abbrev pub entry_at : ℕ → List (List ℕ) → Result Entry ScriptError
entry_at number line = if is_text line then understood number (entry_in line) else Err (error.NotUtf8 number)

-- an entry before those of the lines after it
abbrev pub before : Entry → List Entry → Result (List Entry) ScriptError
before e es = Ok (e ∷ es)

-- what lines that count from a number ask for; the first line that breaks a rule decides
abbrev pub entries_from : ℕ → List (List (List ℕ)) → Result (List Entry) ScriptError
entries_from number [] = Ok []
entries_from number (line ∷ more) = onward (λ e. onward (before e) (entries_from (number + 1) more)) (entry_at number line)

-- where programs are asked for, it is one at least, and no more than there may be
abbrev pub IsEntry : Entry → Type 0
IsEntry (entry.Edit e) = ⊤
IsEntry entry.Undo = ⊤
IsEntry entry.Redo = ⊤
IsEntry entry.Programs = ⊤
IsEntry entry.Switch = ⊤
IsEntry entry.Fill = ⊤
IsEntry entry.Count = ⊤
IsEntry (entry.Answer row) = ⊤
IsEntry (entry.Object row) = ⊤
IsEntry (entry.Best branch k) = (1 ≤ k) × (k ≤ MOST_PROGRAMS)
