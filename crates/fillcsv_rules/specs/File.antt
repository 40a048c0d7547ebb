-- Which bytes are the file of a rule, or else the number of their first bad line.
use Rattle.std.specs.Prelude.{◌≡◌, ◌⊎◌, ℕ, ◌+◌, ◌==◌, ◌&&◌, List, [], ◌∷◌, length, take, drop, Bool, true, false, if◌then◌else◌, nat_le, nat_lt, Option, None, Some, Result, Ok, Err, codes, option_and_then}
use Rattle.std.specs.List.{list_any}
use Rattle.std.specs.Str.{bytes_eq}
use Rattle.fill_text.specs.Data.{nth}
use Rattle.fill_records.specs.Records.{field_of, records_of}
use Rattle.fill_sheet.specs.declared.columns.TheConstants.{LAST_COLUMN, MOST_INPUTS}
use Rattle.fill_numbers.specs.Columns.{has_form, is_word, number_between, numbers_in}
use Rattle.fill_tokens.specs.declared.token_set.TheConstants.TokenSet as set
use Rattle.fill_apply.specs.Saved.{SavedBy}
use Rattle.fill_apply.specs.declared.error.ApplyError.{ApplyError}
use Rattle.fillcsv_options.specs.Words.{LookupData}
use Rattle.fillcsv_rules.specs.Lookups.{from_line, lookups_from}
use Rattle.fillcsv_rules.specs.Rule.{RuleData}
use Rattle.fillcsv_rules.specs.declared.error.RuleError.{RuleError}
use Rattle.fillcsv_rules.specs.declared.error.RuleError.TheVariants as error
use Rattle.fillcsv_rules.specs.declared.rule.Names.{Names}

-- what the lines before the conditional program say
pub record FormData : Type 0 where
  pub names : Option Names
  pub inputs : List ℕ
  pub output : ℕ
  pub lookups : List LookupData

-- the line that a rule's file begins with
abbrev pub is_first : List (List ℕ) → Bool
is_first line = has_form (codes "rule") 2 line && bytes_eq (field_of 2 line) (codes "1")

abbrev pub is_header : List (List ℕ) → Bool
is_header line = has_form (codes "header") 1 line

-- each number is greater than the one before it
abbrev pub is_rising : List ℕ → Bool
is_rising [] = true
is_rising (n ∷ []) = true
is_rising (n ∷ m ∷ more) = nat_lt n m && is_rising (m ∷ more)

abbrev pub if_rising : List ℕ → Option (List ℕ)
if_rising columns = if is_rising columns then Some columns else None

-- the rising columns of a sheet that a line of inputs has, at least one and no more than a sheet may have
abbrev pub inputs_in : List (List ℕ) → Option (List ℕ)
inputs_in line =
    if is_word (codes "inputs") line && (nat_le 2 (length line) && nat_le (length line) (MOST_INPUTS + 1)) then option_and_then if_rising (numbers_in LAST_COLUMN (drop 1 line)) else None

-- a column that is none of the inputs
abbrev pub if_apart : List ℕ → ℕ → Option ℕ
if_apart inputs column = if list_any (λ other. other == column) inputs then None else Some column

abbrev pub output_in : List ℕ → List (List ℕ) → Option ℕ
output_in inputs line = if has_form (codes "output") 2 line then option_and_then (if_apart inputs) (number_between 1 LAST_COLUMN (field_of 2 line)) else None

-- the names of n inputs and of the output
abbrev pub names_in : ℕ → List (List ℕ) → Option Names
names_in count line =
    if has_form (codes "names") (count + 2) line then Some (record { inputs = take count (drop 1 line); output = field_of (count + 2) line }) else None

-- what is made of a value, where there is one
abbrev pub with_value : {A B : Type 0} → (A → B) → Result A ℕ → Result B ℕ
with_value make (Ok x) = Ok (make x)
with_value make (Err number) = Err number

-- the lines after the first, without a header
abbrev pub plain_form : List (List (List ℕ)) → Result FormData ℕ
plain_form lines =
    from_line 2 (option_and_then inputs_in (nth lines 2)) (λ inputs.
    from_line 3 (option_and_then (output_in inputs) (nth lines 3)) (λ output.
    with_value (λ lookups. record { names = None; inputs = inputs; output = output; lookups = lookups }) (lookups_from 4 [] (drop 3 lines))))

-- and with one
abbrev pub named_form : List (List (List ℕ)) → Result FormData ℕ
named_form lines =
    from_line 3 (option_and_then inputs_in (nth lines 3)) (λ inputs.
    from_line 4 (option_and_then (output_in inputs) (nth lines 4)) (λ output.
    from_line 5 (option_and_then (names_in (length inputs)) (nth lines 5)) (λ names.
    with_value (λ lookups. record { names = Some names; inputs = inputs; output = output; lookups = lookups }) (lookups_from 6 [] (drop 5 lines)))))

-- whether there is a line of the property
abbrev pub says : (List (List ℕ) → Bool) → Option (List (List ℕ)) → Bool
says is None = false
says is (Some line) = is line

-- what the lines say, or the number of the first bad one
abbrev pub form_in : List (List (List ℕ)) → Result FormData ℕ
form_in lines = if says is_first (nth lines 1) then (if says is_header (nth lines 2) then named_form lines else plain_form lines) else Err 1

-- what comes of a file's bytes: the rule that its lines say, with the conditional program that it saves, by all
-- tokens, and whose guards read inputs alone, or the number of the first bad line. Out of memory is of no file
abbrev pub FileIs : List ℕ → Result RuleData RuleError → Type 0
FileIs bytes (Ok r) = (form : FormData) × (form_in (records_of bytes) ≡ Ok form) × SavedBy set.ALL form.inputs bytes (Ok r.switch)
    × (r ≡ record { names = form.names; inputs = form.inputs; output = form.output; lookups = form.lookups; switch = r.switch })
FileIs bytes (Err (error.BadLine number)) = (form_in (records_of bytes) ≡ Err number)
    ⊎ ((form : FormData) × (why : ApplyError) × (form_in (records_of bytes) ≡ Ok form) × SavedBy set.ALL form.inputs bytes (Err why) × (number ≡ length (records_of bytes)))
FileIs bytes (Err error.NoMemory) = ⊥
