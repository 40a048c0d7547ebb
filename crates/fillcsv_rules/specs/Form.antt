-- The code's form, and its errors.
use Rattle.std.specs.Prelude.{◌≡◌, ℕ, ⊤, Option, None, Result, Err, map}
use Rattle.fillcsv_options.specs.Words.{lookup_data}
use Rattle.fillcsv_rules.specs.File as file
use Rattle.fillcsv_rules.specs.declared.form.Form.{Form}
use Rattle.fillcsv_rules.specs.declared.error.RuleError.{RuleError}
use Rattle.fillcsv_rules.specs.declared.error.RuleError.TheVariants as error

-- what a form of the code stands for
abbrev pub form_data : Form → file.FormData
form_data f = record { names = f.names; inputs = f.inputs.items; output = f.output; lookups = map lookup_data f.lookups.items }

-- the error tells the first bad line; out of memory is free
abbrev pub IsFormError : {A : Type 0} → Result A ℕ → RuleError → Type 0
IsFormError r (error.BadLine number) = r ≡ Err number
IsFormError r error.NoMemory = ⊤

-- the line of this number gives nothing
abbrev pub IsLineError : {A : Type 0} → ℕ → Option A → RuleError → Type 0
IsLineError number given (error.BadLine n) = (given ≡ None) × (n ≡ number)
IsLineError number given error.NoMemory = ⊤
