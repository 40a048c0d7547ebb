-- The lines that say why no sheet was written, or not all of it.
use Rattle.std.specs.Prelude.{◌≡◌, ℕ, List, ◌++◌, Option, None, Some, codes}
use Rattle.std.specs.Fmt.{decimal}
use Rattle.fill_sheet.specs.declared.error.SheetError.{SheetError}
use Rattle.fill_sheet.specs.declared.error.SheetError.TheVariants as sheet
use Rattle.fillcsv_tables.specs.Lines.{line_of, memory_line}
use Rattle.fillcsv_columns.specs.declared.error.ChoiceError.{ChoiceError}
use Rattle.fillcsv_columns.specs.declared.error.ChoiceError.TheVariants as choice
use Rattle.fillcsv_run.specs.Near.{near}
use Rattle.fillcsv_columns.specs.Choice.{Refusal, Missing, Ambiguous, Filled, Again, Present, Full, TooMany, Nothing}

abbrev pub unread_line : List ℕ → List ℕ
unread_line name = line_of name (codes "cannot be read\n")

-- the line of a rule that could not be saved under this path
abbrev pub unsaved_line : List ℕ → List ℕ
unsaved_line path = line_of path (codes "cannot be written\n")

abbrev pub output_line : List ℕ
output_line = codes "fillcsv: output cannot be written\n"

-- the line of a file that spells no sheet
abbrev pub sheet_line : List ℕ → SheetError → List ℕ
sheet_line name (sheet.TooManyRows limit) = line_of name (codes "more than " ++ (decimal limit ++ codes " records: learn from some of them with --save-rule, and fill all with --rule\n"))
sheet_line name (sheet.NotUtf8 number column) =
    line_of name (codes "record " ++ (decimal number ++ (codes ", column " ++ (decimal column ++ codes ": not UTF-8\n"))))
sheet_line name sheet.NoMemory = memory_line

-- the line of an example for a row that is not there
abbrev pub row_line : List ℕ → ℕ → List ℕ
row_line name row = line_of name (codes "row " ++ (decimal row ++ codes ": no such row, and --example names it\n"))

-- the question after a name that is not there, where a column has one like it
abbrev pub question : Option (List ℕ) → List ℕ
question None = codes "\n"
question (Some near) = codes ", did you mean \"" ++ (near ++ codes "\"?\n")

-- the line of words that choose no columns among those of these names
abbrev pub choice_line : List ℕ → List (List ℕ) → Refusal → List ℕ
choice_line name names (Missing word) = line_of name (codes "no column \"" ++ (word ++ (codes "\"" ++ question (near word names))))
choice_line name names (Ambiguous word) = line_of name (codes "more than one column \"" ++ (word ++ codes "\"\n"))
choice_line name names (Filled word) = line_of name (codes "column \"" ++ (word ++ codes "\" is filled, and cannot be read too\n"))
choice_line name names (Again word) = line_of name (codes "column \"" ++ (word ++ codes "\" is named twice\n"))
choice_line name names (Present word) = line_of name (codes "column \"" ++ (word ++ codes "\" is there already\n"))
choice_line name names Full = line_of name (codes "1000 columns are there, and no more can be named\n")
choice_line name names TooMany = line_of name (codes "more than 8 columns to read\n")
choice_line name names Nothing = line_of name (codes "no column to read\n")

-- the line says the refusal of the code
abbrev pub IsChoiceLine : List ℕ → List (List ℕ) → ChoiceError → List ℕ → Type 0
IsChoiceLine name names (choice.Missing word) line = line ≡ choice_line name names (Missing word.now)
IsChoiceLine name names (choice.Ambiguous word) line = line ≡ choice_line name names (Ambiguous word.now)
IsChoiceLine name names (choice.Filled word) line = line ≡ choice_line name names (Filled word.now)
IsChoiceLine name names (choice.Again word) line = line ≡ choice_line name names (Again word.now)
IsChoiceLine name names (choice.Present word) line = line ≡ choice_line name names (Present word.now)
IsChoiceLine name names choice.Full line = line ≡ choice_line name names Full
IsChoiceLine name names choice.TooMany line = line ≡ choice_line name names TooMany
IsChoiceLine name names choice.Nothing line = line ≡ choice_line name names Nothing
IsChoiceLine name names choice.NoMemory line = ⊥
