-- Files that were saved, as plain data.
use Rattle.std.specs.Prelude.{ℕ, Bool, List, [], ◌∷◌, Option, option_map}

-- the name and the bytes of each file that was saved, the last one first; none where a store does not tell them
abbrev pub SavedFiles : Type 0
SavedFiles = Option (List (List ℕ × List ℕ))

-- and one more
abbrev pub with_file : List ℕ → List ℕ → SavedFiles → SavedFiles
with_file name bytes files = option_map (λ told. (name, bytes) ∷ told) files

-- the bytes of the file that was saved last, none where none was
abbrev pub last_bytes : List (List ℕ × List ℕ) → List ℕ
last_bytes [] = []
last_bytes (file ∷ more) = file.1

-- a store in memory: its files, whether every save is to fail, and how many failed
pub record Kept : Type 0 where
  pub files : List (List ℕ × List ℕ)
  pub fails : Bool
  pub faults : ℕ

-- how many saves on a disk failed
pub record Saves : Type 0 where
  pub faults : ℕ
