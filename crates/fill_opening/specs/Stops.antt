-- Why steps stop before all of them passed.
use Rattle.std.specs.Prelude.{◌≡◌, ◌⊎◌, ℕ, List, Some, None, Contains, string_bytes, ⊤}
use Rattle.fill_edge.specs.Outside.{Files, Rose}
use Rattle.fill_opening.specs.Opened.{Held, Told, Opened, Opening, Unread, Refused}
use Rattle.fill_opening.specs.declared.stop.Stop.{Stop}
use Rattle.fill_opening.specs.declared.stop.Stop.TheVariants as stop

-- the counts of failed reads, by name
abbrev pub Counts : Type 0
Counts = List ℕ → ℕ

-- a read of the name failed in this call: its count rose, and where files are told, the steps come to the name
abbrev pub ReadFails : {R A : Type 0} → (Held → Opening R A) → Files → Counts → Counts → List ℕ → Type 0
ReadFails steps None before now name = Rose (before name) (now name)
ReadFails steps (Some held) before now name = Contains (steps held).reads name × Rose (before name) (now name)

-- the file of the name is the next to read, and is not there
abbrev pub IsUnread : {R A : Type 0} → (Held → Opening R A) → Files → List ℕ → Type 0
IsUnread steps None name = ⊥
IsUnread steps (Some held) name = (steps held).outcome ≡ Unread name

-- what may stop steps that read files; out of memory is free
abbrev pub Stops : {R A : Type 0} → (Held → Opening R A) → Files → Counts → Counts → Stop R → Type 0
Stops steps files before now (stop.Unread name) = IsUnread steps files (string_bytes name) ⊎ ReadFails steps files before now (string_bytes name)
Stops steps files before now (stop.Refused why) = Told files (λ held. (steps held).outcome ≡ Refused why)
Stops steps files before now stop.NoMemory = ⊤

-- what may stop a check of bytes that were read; out of memory is free
abbrev pub Refuses : {R A : Type 0} → Opened R A → Stop R → Type 0
Refuses o (stop.Unread name) = ⊥
Refuses o (stop.Refused why) = o ≡ Refused why
Refuses o stop.NoMemory = ⊤

-- the stop is for this reason, or memory ran out
abbrev pub IsStopOf : {R : Type 0} → R → Stop R → Type 0
IsStopOf why (stop.Unread name) = ⊥
IsStopOf why (stop.Refused other) = other ≡ why
IsStopOf why stop.NoMemory = ⊤
