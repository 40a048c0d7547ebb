-- What is known of real files and streams: their counts, of a stream its writer, and of a file from where it is read.
use Rattle.std.specs.Prelude.{◌≡◌, ℕ, List, drop, Option, None, Some, Result, Ok, Err, ⊤}
use Rattle.fill_edge.specs.Outside.{counted, IsPieceOf}
use Rattle.fill_edge.specs.declared.outside.Failed.{Failed}
use Rattle.fill_edge.specs.declared.outside.ReadRefusal.{ReadRefusal}

-- how many reads failed, and how many bytes were given
pub record Counts : Type 0 where
  pub faults : ℕ
  pub given : ℕ

-- the counts after a read that was answered so
abbrev pub counts_after : Counts → Result ℕ ReadRefusal → Counts
counts_after counts (Ok n) = record counts { given = counted counts.given n }
counts_after counts (Err _) = record counts { faults = counted counts.faults 1 }

-- a writer, and how many writes failed
pub record Stream (W : Type 0) : Type 0 where
  pub writer : W
  pub faults : ℕ

-- the stream after a write that its writer answered so
abbrev pub stream_after : {W : Type 0} → Stream W → Result ℕ Failed → Stream W
stream_after stream (Ok n) = stream
stream_after stream (Err _) = record stream { faults = counted stream.faults 1 }

-- what a file of this type has left is its bytes from its position on, wherever both are known
abbrev pub IsPlaced : {F : Type 0} → (F → Option (List ℕ)) → (F → Option ℕ) → (F → Option (List ℕ)) → Type 0
IsPlaced {F = F} remaining position bytes =
    (file : F) (at : ℕ) (xs : List ℕ) → position file ≡ Some at → bytes file ≡ Some xs → remaining file ≡ Some (drop at xs)

-- the buffer begins with n bytes of the file from this place on, where the file's position and its bytes are known
abbrev pub GivesFrom : Option ℕ → Option (List ℕ) → ℕ → ℕ → List ℕ → Type 0
GivesFrom None bytes at n buf = ⊤
GivesFrom (Some _) None at n buf = ⊤
GivesFrom (Some _) (Some xs) at n buf = IsPieceOf (Some xs) at n buf

-- the buffer begins with n bytes of some file of this type from this place on, where that file's position and its bytes are known
abbrev pub GivesOfFile : {F : Type 0} → (F → Option ℕ) → (F → Option (List ℕ)) → ℕ → ℕ → List ℕ → Type 0
GivesOfFile {F = F} position bytes at n buf = (file : F) × GivesFrom (position file) (bytes file) at n buf
