-- Files and output in memory, as plain data.
use Rattle.std.specs.Prelude.{ℕ, ◌-◌, min, List, ◌++◌, length, take, drop, find, Option, option_map, unwrap_or, [], Result, Ok, Err}
use Rattle.std.specs.Str.{bytes_eq}
use Rattle.fill_edge.specs.Outside.{counted}
use Rattle.fill_edge.specs.declared.outside.ReadRefusal.{ReadRefusal}
use Rattle.fill_edge.specs.declared.outside.ReadRefusal.TheVariants as refusal
use Rattle.fill_edge.specs.declared.outside.Failed.{Failed}

-- files, each its name and its bytes, those that were put last first; the numbers of the calls that are set to fail;
-- how many reads were made, how many of them failed, how many bytes they gave, and how many one gives at most
pub record Shelf : Type 0 where
  pub files : List (List ℕ × List ℕ)
  pub failing : List ℕ
  pub calls : ℕ
  pub faults : ℕ
  pub given : ℕ
  pub most : ℕ

-- the bytes of the file that was put last under this name
abbrev pub held : List (List ℕ × List ℕ) → List ℕ → Option (List ℕ)
held files name = option_map (λ file. file.1) (find (λ file. bytes_eq file.0 name) files)

-- the bytes of this file from a place on
abbrev pub rest_from : Option (List ℕ) → ℕ → List ℕ
rest_from file at = drop at (unwrap_or file [])

-- the shelf after a read that was answered so: nothing but counts changes
abbrev pub after_read : Shelf → Result ℕ ReadRefusal → Shelf
after_read shelf (Ok n) = record shelf { calls = counted shelf.calls 1; given = counted shelf.given n }
after_read shelf (Err refusal.Failed) = record shelf { calls = counted shelf.calls 1; faults = counted shelf.faults 1 }
after_read shelf (Err refusal.Missing) = record shelf { calls = counted shelf.calls 1 }

-- what was written; the numbers of the calls that are set to fail; how many writes were made and how many of them
-- failed; how many bytes there is room for in all, and how many one write takes at most
pub record Written : Type 0 where
  pub bytes : List ℕ
  pub failing : List ℕ
  pub calls : ℕ
  pub faults : ℕ
  pub capacity : ℕ
  pub most : ℕ

-- how many bytes of a piece of n bytes there is room for
abbrev pub room_for : Written → ℕ → ℕ
room_for sink n = min (min n sink.most) (sink.capacity - length sink.bytes)

-- the output after a write of this piece that was answered so
abbrev pub after_write : Written → List ℕ → Result ℕ Failed → Written
after_write sink piece (Ok n) = record sink { calls = counted sink.calls 1; bytes = sink.bytes ++ take n piece }
after_write sink piece (Err _) = record sink { calls = counted sink.calls 1; faults = counted sink.faults 1 }
