-- Files that are read.
use Rattle.fill_edge.specs.declared.outside.TheConstants.{LARGEST_FILE}
use Rattle.std.specs.Prelude.{ℕ, List, [], ◌∷◌, length, if◌then◌else◌, nat_lt, Option, None, Some}
use Rattle.fill_opening.specs.Opened.{Held, Opened, Opening, Unread, Refused, Passed}
use Rattle.fillcsv_tables.specs.Lines.{long_line}

-- how many bytes a table may have: 16 MiB
abbrev pub most_of_table : ℕ
most_of_table = LARGEST_FILE

-- the bytes of a file that is there and has at most these bytes
abbrev pub bytes_of : ℕ → List ℕ → Option (List ℕ) → Opened (List ℕ) (List ℕ)
bytes_of most name None = Unread name
bytes_of most name (Some bytes) = if nat_lt most (length bytes) then Refused (long_line most name) else Passed bytes

-- the file of this name is read, which may have at most these bytes
abbrev pub file_opens : ℕ → Held → List ℕ → Opening (List ℕ) (List ℕ)
file_opens most held name = record { reads = name ∷ []; outcome = bytes_of most name (held name) }
