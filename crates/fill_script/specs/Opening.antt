-- The opening section of a session: what its lines have set, line by line.
use Rattle.std.specs.Prelude.{ℕ, ◌+◌, ◌==◌, ◌||◌, not, List, [], ◌∷◌, ◌++◌, Option, Some, None, Result, Ok, Err, Bool, true, false, if◌then◌else◌, nat_le}
use Rattle.std.specs.List.{list_any}
use Rattle.std.specs.Option.{is_some}
use Rattle.fill_script.specs.Line.{is_text, statement_in}
use Rattle.fill_script.specs.declared.error.ScriptError.{ScriptError}
use Rattle.fill_script.specs.declared.error.ScriptError.TheVariants as error
use Rattle.fill_script.specs.declared.opening.Opening.{Opening}
use Rattle.fill_script.specs.declared.statement.Statement.{Statement}
use Rattle.fill_script.specs.declared.statement.Statement.TheVariants as says

-- nothing is set
abbrev pub unset : Opening
unset = record { sheet = None; header = false; inputs = None; output = None; tables = []; depth = None; constants = None; profile = None }

-- the output column is among the inputs
abbrev pub clashes : Option (List ℕ) → Option ℕ → Bool
clashes None output = false
clashes (Some inputs) None = false
clashes (Some inputs) (Some output) = list_any (λ input. input == output) inputs

-- the second profile was set
abbrev pub is_wide : Option ℕ → Bool
is_wide None = false
is_wide (Some profile) = profile == 2

-- a line is understood beside the lines before it: inputs and output don't clash, and depth 3 is of the second profile
abbrev pub is_understood : Opening → Statement → Bool
is_understood o (says.Inputs columns) = not (clashes (Some columns) o.output)
is_understood o (says.Output column) = not (clashes o.inputs (Some column))
is_understood o (says.Depth depth) = nat_le depth 2 || is_wide o.profile
is_understood o (says.Sheet file) = true
is_understood o says.Header = true
is_understood o (says.Lookup line) = true
is_understood o (says.Constants which) = true
is_understood o (says.Profile profile) = true

-- a line before it said the same kind of thing, which only one line may
abbrev pub is_said : Opening → Statement → Bool
is_said o (says.Sheet file) = is_some o.sheet
is_said o says.Header = o.header
is_said o (says.Inputs columns) = is_some o.inputs
is_said o (says.Output column) = is_some o.output
is_said o (says.Lookup line) = false
is_said o (says.Depth depth) = is_some o.depth
is_said o (says.Constants which) = is_some o.constants
is_said o (says.Profile profile) = is_some o.profile

-- what is set once a line has said this
abbrev pub with_statement : Opening → Statement → Opening
with_statement o (says.Sheet file) = record o { sheet = Some file }
with_statement o says.Header = record o { header = true }
with_statement o (says.Inputs columns) = record o { inputs = Some columns }
with_statement o (says.Output column) = record o { output = Some column }
with_statement o (says.Lookup line) = record o { tables = o.tables ++ line ∷ [] }
with_statement o (says.Depth depth) = record o { depth = Some depth }
with_statement o (says.Constants which) = record o { constants = Some which }
with_statement o (says.Profile profile) = record o { profile = Some profile }

-- the same, where the line breaks no rule
abbrev pub after_statement : Opening → ℕ → Option Statement → Result Opening ScriptError
after_statement o number None = Err (error.BadRecord number)
after_statement o number (Some s) =
    if not (is_understood o s) then Err (error.BadRecord number)
    else if is_said o s then Err (error.Again number)
    else Ok (with_statement o s)

-- what is set after the line of a number
abbrev pub after_line : Opening → ℕ → List (List ℕ) → Result Opening ScriptError
after_line o number line = if is_text line then after_statement o number (statement_in number line) else Err (error.NotUtf8 number)

-- what follows from what was taken; a refusal stays
abbrev pub onward : {A B : Type 0} → (A → Result B ScriptError) → Result A ScriptError → Result B ScriptError
onward f (Ok x) = f x
onward f (Err e) = Err e

-- what is set after lines that count from a number; the first line that breaks a rule decides
abbrev pub after_lines : Opening → ℕ → List (List (List ℕ)) → Result Opening ScriptError
after_lines o number [] = Ok o
after_lines o number (line ∷ more) = onward (λ p. after_lines p (number + 1) more) (after_line o number line)
