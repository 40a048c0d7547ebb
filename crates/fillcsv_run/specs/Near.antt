-- The column whose name is most like a word.
use Rattle.std.specs.Prelude.{ℕ, ◌/◌, ◌&&◌, List, [], ◌∷◌, length, nat_eq, nat_le, nat_lt, Bool, if◌then◌else◌, Option, None, Some, option_and_then}
use Rattle.std.specs.Str.{chars, is_utf8}
use Rattle.strsim.specs.Edits.{levenshtein_row}
use Rattle.fillcsv_run.specs.declared.near.TheConstants.{LONGEST}

-- how many characters are put in, taken out or replaced on the shortest way from a word to a name (the distance of Levenshtein)
abbrev pub edits : List ℕ → List ℕ → ℕ
edits word name = levenshtein_row nat_eq (chars word) (chars name) (length (chars name))

-- a name that is not too long to be compared, with at most half as many edits as the word has bytes
abbrev pub is_close : List ℕ → List ℕ → Bool
is_close word name = nat_le (length name) LONGEST && nat_le (edits word name) (length word / 2)

abbrev pub if_close : List ℕ → List ℕ → Option (List ℕ)
if_close word name = if is_close word name then Some name else None

abbrev pub as_text : List ℕ → Option (List ℕ)
as_text name = if is_utf8 name then Some name else None

-- a name that is text and like the word
abbrev pub like : List ℕ → List ℕ → Option (List ℕ)
like word name = option_and_then (if_close word) (as_text name)

-- the nearer one of two names, the first where none is
abbrev pub better : List ℕ → Option (List ℕ) → Option (List ℕ) → Option (List ℕ)
better word best None = best
better word None (Some name) = Some name
better word (Some best) (Some name) = if nat_lt (edits word name) (edits word best) then Some name else Some best

abbrev pub near_from : List ℕ → Option (List ℕ) → List (List ℕ) → Option (List ℕ)
near_from word best [] = best
near_from word best (name ∷ more) = near_from word (better word best (like word name)) more

-- of the names that are like a word that is not too long to be compared the nearest one, the first of several
abbrev pub near : List ℕ → List (List ℕ) → Option (List ℕ)
near word names = if nat_le (length word) LONGEST then near_from word None names else None
