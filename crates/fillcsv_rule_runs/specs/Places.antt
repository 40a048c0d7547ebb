-- Where the columns of a rule stand in a stream.
use Rattle.std.specs.Prelude.{ℕ, ◌+◌, List, [], ◌∷◌, length, Option, None, Some, Result, Ok, Err}
use Rattle.fillcsv_columns.specs.Columns.{named}
use Rattle.fillcsv_rules.specs.Rule.{RuleData}
use Rattle.fillcsv_rules.specs.declared.rule.Names.{Names}

-- the columns that are read, in the order of the rule's inputs, and the one that is filled
pub record PlacesData : Type 0 where
  pub sources : List ℕ
  pub target : ℕ

-- a name that no column has, or more than one
pub data Misplaced : Type 0 where
  Missing : List ℕ → Misplaced
  Ambiguous : List ℕ → Misplaced

-- the one of these columns, which have the name
abbrev pub only_one : List ℕ → List ℕ → Result ℕ Misplaced
only_one name [] = Err (Missing name)
only_one name (column ∷ []) = Ok column
only_one name (column ∷ other ∷ more) = Err (Ambiguous name)

-- the same, a new column where there is none
abbrev pub one_or_new : List ℕ → ℕ → List ℕ → Result ℕ Misplaced
one_or_new name new [] = Ok new
one_or_new name new (column ∷ []) = Ok column
one_or_new name new (column ∷ other ∷ more) = Err (Ambiguous name)

-- the column of a name in a header, and that of the column that is filled, which may be new: the one after the last
abbrev pub source_in : List (List ℕ) → List ℕ → Result ℕ Misplaced
source_in header name = only_one name (named name 1 header)

abbrev pub target_in : List (List ℕ) → List ℕ → Result ℕ Misplaced
target_in header name = one_or_new name (length header + 1) (named name 1 header)

-- what follows where this is placed
abbrev pub onward : {A B : Type 0} → Result A Misplaced → (A → Result B Misplaced) → Result B Misplaced
onward (Ok x) rest = rest x
onward (Err e) rest = Err e

-- the columns of these names; the first name without one decides
abbrev pub sources_in : List (List ℕ) → List (List ℕ) → Result (List ℕ) Misplaced
sources_in header [] = Ok []
sources_in header (name ∷ more) = onward (source_in header name) (λ column. onward (sources_in header more) (λ columns. Ok (column ∷ columns)))

-- the places of a rule's columns by their names in a header
abbrev pub places_by : Names → List (List ℕ) → Result PlacesData Misplaced
places_by names header = onward (sources_in header names.inputs) (λ sources. onward (target_in header names.output) (λ target. Ok (record { sources = sources; target = target })))

-- the first record, the empty one where there is none
abbrev pub head_of : List (List (List ℕ)) → List (List ℕ)
head_of [] = []
head_of (fields ∷ more) = fields

-- the places in a stream of these records: by names in the first one, or else by the rule's numbers
abbrev pub placed : Option Names → List ℕ → ℕ → List (List (List ℕ)) → Result PlacesData Misplaced
placed None inputs output rows = Ok (record { sources = inputs; target = output })
placed (Some names) inputs output rows = places_by names (head_of rows)

abbrev pub places_in : RuleData → List (List (List ℕ)) → Result PlacesData Misplaced
places_in r rows = placed r.names r.inputs r.output rows
