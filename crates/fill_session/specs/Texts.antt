-- Why an edit is refused, as a person reads it.
use Rattle.std.specs.Prelude.{ℕ, List, ◌++◌, codes}
use Rattle.std.specs.Fmt.{decimal}
use Rattle.fill_session.specs.declared.error.EditError.{EditError}
use Rattle.fill_session.specs.declared.error.EditError.TheVariants as error
use Rattle.fill_session.specs.declared.error.Part.{Part}
use Rattle.fill_session.specs.declared.error.Part.TheVariants as part

-- how long which part is
abbrev pub length_text : Part → ℕ → List ℕ
length_text part.Text n = codes "text of " ++ (decimal n ++ codes " characters is too long")
length_text part.Inputs n = codes "inputs of " ++ (decimal n ++ codes " characters are too long")

-- why an edit was not made
abbrev pub reason_text : EditError → List ℕ
reason_text (error.NoSuchRow rows) = codes "no such row"
reason_text error.HasExample = codes "row has an example"
reason_text error.NoExample = codes "row has no example"
reason_text (error.TooLong which n) = length_text which n
reason_text error.TooMany = codes "too many examples"
reason_text (error.NoProgram row) = codes "no program for row " ++ decimal row
reason_text (error.TooManyBranches row) = codes "too many branches at row " ++ decimal row
reason_text (error.NoGuard branch) = codes "no guard for branch " ++ decimal branch
reason_text error.NoMemory = codes "out of memory"
