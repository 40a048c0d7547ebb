-- A file of a cabinet that is read more than once.
use Rattle.std.specs.Prelude.{◌≡◌, ℕ, ◌≤◌, List, drop, length, Bool, true, false, ⊤, Option, None, Some, option_map}
use Rattle.fill_edge.specs.Outside.{Files, Rose, NoneFell, NoneChanged}

-- the bytes of the file of this name, where they are told
abbrev pub told_bytes : Files → List ℕ → Option (List ℕ)
told_bytes None name = None
told_bytes (Some held) name = held name

-- the same from a place on
abbrev pub told_from : Files → List ℕ → ℕ → Option (List ℕ)
told_from files name at = option_map (drop at) (told_bytes files name)

-- where files are told, there is one of this name, of no more than these bytes
abbrev pub IsThere : Files → List ℕ → ℕ → Type 0
IsThere None name most = ⊤
IsThere (Some held) name most = (bytes : List ℕ) × (held name ≡ Some bytes) × (length bytes ≤ most)

-- where files are told, the file of this name has so many bytes
abbrev pub HasSize : Files → List ℕ → ℕ → Type 0
HasSize None name n = ⊤
HasSize (Some held) name n = (bytes : List ℕ) × (held name ≡ Some bytes) × (length bytes ≡ n)

-- a reader of a cabinet's file: the cabinet, the name, the place that is read next, and whether a read failed
pub record ReaderData (C : Type 0) : Type 0 where
  pub cabinet : C
  pub name : List ℕ
  pub at : ℕ
  pub failed : Bool

-- a reader, and the bytes that were read ahead of it and not given yet
pub record AheadData (R : Type 0) : Type 0 where
  pub reader : R
  pub ahead : List ℕ

-- how a cabinet stands to what it was before its file was read: it holds the same files, the file is there and can be read to
-- its end, no count of faults fell, and where a read failed the name's count rose, else none changed
pub record IsSince (files : Files) (name : List ℕ) (before : List ℕ → ℕ) (most : ℕ) (now_files : Files) (now_name : List ℕ) (now : List ℕ → ℕ) (failed : Bool) : Type 0 where
  pub same : now_files ≡ files
  pub named : now_name ≡ name
  pub there : IsThere files name most
  pub later : NoneFell before now
  pub unchanged : failed ≡ false → NoneChanged before now
  pub rose : failed ≡ true → Rose (before name) (now name)

-- these bytes are told of the file of this name
abbrev pub IsTold : Files → List ℕ → List ℕ → Type 0
IsTold files name bytes = told_bytes files name ≡ Some bytes
