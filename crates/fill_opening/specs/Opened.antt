-- How far steps come that read files: which files they read, and what they end with.
use Rattle.std.specs.Prelude.{ℕ, List, [], ◌++◌, Option, Some, None, Result, Ok, Err, ⊤}
use Rattle.fill_edge.specs.Outside.{Files}

-- the bytes of each name's file
abbrev pub Held : Type 0
Held = List ℕ → Option (List ℕ)

-- a fact of the files, where they are told
abbrev pub Told : Files → (Held → Type 0) → Type 0
Told None P = ⊤
Told (Some held) P = P held

-- what steps end with: the file of a name is not there, a file is refused for a reason, or all passed and give something
pub data Opened (R A : Type 0) : Type 0 where
  Unread : List ℕ → Opened R A
  Refused : R → Opened R A
  Passed : A → Opened R A

-- the names of the files that steps read, and what they end with
pub record Opening (R A : Type 0) : Type 0 where
  pub reads : List (List ℕ)
  pub outcome : Opened R A

-- steps that read nothing
abbrev pub at_once : {R A : Type 0} → Opened R A → Opening R A
at_once o = record { reads = []; outcome = o }

-- the further steps, where the earlier ones passed
abbrev pub further : {R A B : Type 0} → (A → Opening R B) → Opened R A → Opening R B
further rest (Unread name) = at_once (Unread name)
further rest (Refused why) = at_once (Refused why)
further rest (Passed x) = rest x

-- steps, and where they pass the further ones of what they give
abbrev pub and_then : {R A B : Type 0} → Opening R A → (A → Opening R B) → Opening R B
and_then first rest = record { reads = first.reads ++ (further rest first.outcome).reads; outcome = (further rest first.outcome).outcome }

-- what was read passes, and an error is a reason to refuse
abbrev pub checked : {R A E : Type 0} → (E → R) → Result A E → Opened R A
checked why (Ok x) = Passed x
checked why (Err e) = Refused (why e)

-- all steps passed
abbrev pub IsPassed : {R A : Type 0} → Opened R A → Type 0
IsPassed (Unread name) = ⊥
IsPassed (Refused why) = ⊥
IsPassed (Passed x) = ⊤
