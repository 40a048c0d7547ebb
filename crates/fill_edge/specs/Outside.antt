-- What a cabinet of files and a sink of bytes tell, and what their calls do to it.
use Rattle.std.specs.Prelude.{◌≡◌, ◌↔◌, ◌⊎◌, ℕ, ◌+◌, ◌-◌, ◌^◌, ◌<◌, ◌≤◌, min, List, length, take, drop, ⊤, Option, None, Some}
use Rattle.std.specs.Io.KnownBytes.{Appends}
use Rattle.std.proofs.Common.{arith}

-- what a cabinet tells of its files: nothing, or the map from the bytes of a name to the bytes of its file
abbrev pub Files : Type 0
Files = Option (List ℕ → Option (List ℕ))

-- the last value of a count, where it stands still
abbrev pub last_count : ℕ
last_count = 2 ^ 64 - 1

-- a count after n more
abbrev pub counted : ℕ → ℕ → ℕ
counted count n = min (count + n) last_count

-- a count rose by more than n, or stands at its last value (`RoseBeyond-cases`)
abbrev pub RoseBeyond : ℕ → ℕ → ℕ → Type 0
RoseBeyond before now n = counted before (n + 1) ≤ now

-- a count rose: it is greater now, or stands at its last value (`Rose-cases`)
abbrev pub Rose : ℕ → ℕ → Type 0
Rose before now = counted before 1 ≤ now

-- no count is above its last value, and then these are exactly the two cases
pub RoseBeyond-cases : (before now n : ℕ) → now ≤ last_count → RoseBeyond before now n ↔ ((before + n < now) ⊎ (now ≡ last_count))
RoseBeyond-cases before now n fits = grind arith

pub Rose-cases : (before now : ℕ) → now ≤ last_count → Rose before now ↔ ((before < now) ⊎ (now ≡ last_count))
Rose-cases before now fits = grind arith

-- no name's count fell
abbrev pub NoneFell : (List ℕ → ℕ) → (List ℕ → ℕ) → Type 0
NoneFell before now = (name : List ℕ) → before name ≤ now name

-- no name's count changed
abbrev pub NoneChanged : (List ℕ → ℕ) → (List ℕ → ℕ) → Type 0
NoneChanged before now = (name : List ℕ) → now name ≡ before name

-- there is a file, the first n bytes of the buffer are its bytes from a place on, and n is 0 only at or past its end
abbrev pub IsPieceOf : Option (List ℕ) → ℕ → ℕ → List ℕ → Type 0
IsPieceOf None at n buf = ⊥
IsPieceOf (Some file) at n buf =
    (take n buf ≡ take n (drop at file)) × (n ≤ length (drop at file)) × (n ≡ 0 → length file ≤ at)

-- the same of the file of this name, where files are told
abbrev pub GivesPiece : Files → List ℕ → ℕ → ℕ → List ℕ → Type 0
GivesPiece None name at n buf = ⊤
GivesPiece (Some held) name at n buf = IsPieceOf (held name) at n buf

-- files are told, and the name is not among them
abbrev pub IsMissing : Files → List ℕ → Type 0
IsMissing None name = ⊥
IsMissing (Some held) name = held name ≡ None

-- where files are told, these are the bytes of the file of this name
abbrev pub IsFile : Files → List ℕ → List ℕ → Type 0
IsFile None name bytes = ⊤
IsFile (Some held) name bytes = held name ≡ Some bytes

-- there is a file, of more than n bytes
abbrev pub IsLonger : Option (List ℕ) → ℕ → Type 0
IsLonger None n = ⊥
IsLonger (Some file) n = n < length file

-- the same of the file of this name, where files are told
abbrev pub IsTooLong : Files → List ℕ → ℕ → Type 0
IsTooLong None name n = ⊤
IsTooLong (Some held) name n = IsLonger (held name) n

-- known bytes grew by a part of the piece: a prefix of it that is not all of it
abbrev pub AppendsPart : Option (List ℕ) → Option (List ℕ) → List ℕ → Type 0
AppendsPart old new piece = (n : ℕ) × (n < length piece) × Appends old new (take n piece)
