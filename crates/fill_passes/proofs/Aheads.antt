-- Bytes that are read ahead, of which none are pending.
use Rattle.std.proofs.Common.{◌≡◌, ℕ, ◌≤◌, List, [], ◌∷◌, length, take, drop, Option, Result, arith, length-take}
use Rattle.std.proofs.lemmas.List.{drop_all}
use Rattle.std.specs.Io.KnownBytes.{Keeps, ReadConsumes, prepend_known}
use Rattle.std.proofs.KnownBytes.{prepend_known-nil}

-- behind the bytes that were read ahead none are pending
pub none_left : (xs : List ℕ) (at filled : ℕ) → filled ≤ at → drop at (take filled xs) ≡ []
none_left xs at filled le = let size : length (take filled xs) ≡ _ = length-take filled xs in drop_all at (take filled xs) (omega (arith, size, le))

-- where none are pending, the reader is read
pub read_on : {E : Type 0} (ahead : List ℕ) (a b : Option (List ℕ)) (r : Result ℕ E) (buf : List ℕ) → ahead ≡ [] → ReadConsumes a b r buf → ReadConsumes (prepend_known ahead a) (prepend_known ahead b) r buf
read_on [] a b r buf is h = rw (prepend_known-nil a, prepend_known-nil b) h
read_on (x ∷ xs) a b r buf is h = cc

-- what is left is kept where none are pending
pub kept_on : (ahead : List ℕ) (a b : Option (List ℕ)) → ahead ≡ [] → Keeps a b → Keeps (prepend_known ahead a) (prepend_known [] b)
kept_on [] a b is h = rw (prepend_known-nil a, prepend_known-nil b) h
kept_on (x ∷ xs) a b is h = cc
