-- What the fields of a record spell: words, numbers, and distinct columns. A record is a list of fields.
use Rattle.std.specs.Prelude.{ℕ, ◌+◌, ◌==◌, ◌&&◌, not, List, [], ◌∷◌, length, drop, Option, Some, None, Bool, true, if◌then◌else◌, nat_le, option_and_then}
use Rattle.std.specs.List.{list_any}
use Rattle.std.specs.Str.{bytes_eq}
use Rattle.fill_records.specs.Records.{field_of}
use Rattle.fill_numbers.specs.Number.{number_in}

-- a line of this word and n fields
abbrev pub has_form : List ℕ → ℕ → List (List ℕ) → Bool
has_form word fields line = (length line == fields) && bytes_eq (field_of 1 line) word

-- a number from one to another
abbrev pub between : ℕ → ℕ → ℕ → Option ℕ
between low high n = if nat_le low n && nat_le n high then Some n else None

-- the number from one to another that a field spells
abbrev pub number_between : ℕ → ℕ → List ℕ → Option ℕ
number_between low high bytes = option_and_then (between low high) (number_in bytes)

-- an item before others, where all are there
abbrev pub before : {A : Type 0} → Option A → Option (List A) → Option (List A)
before None rest = None
before (Some x) None = None
before (Some x) (Some xs) = Some (x ∷ xs)

-- all the numbers that these fields spell, where each of them spells one up to the highest
abbrev pub numbers_in : ℕ → List (List ℕ) → Option (List ℕ)
numbers_in high [] = Some []
numbers_in high (field ∷ more) = before (number_between 1 high field) (numbers_in high more)

-- no number stands twice
abbrev pub is_distinct : List ℕ → Bool
is_distinct [] = true
is_distinct (x ∷ xs) = not (list_any (λ y. y == x) xs) && is_distinct xs

abbrev pub if_distinct : List ℕ → Option (List ℕ)
if_distinct columns = if is_distinct columns then Some columns else None

-- distinct columns up to the highest that a line has from a field on, at least one and at most n
abbrev pub columns_in : ℕ → ℕ → ℕ → List (List ℕ) → Option (List ℕ)
columns_in first most high line =
    if nat_le (first + 1) (length line) && nat_le (length line) (first + most) then option_and_then if_distinct (numbers_in high (drop first line)) else None

-- a line's first field is this word
abbrev pub is_word : List ℕ → List (List ℕ) → Bool
is_word word line = bytes_eq (field_of 1 line) word
