-- What a command asks for: its steps, and what they open.
use Rattle.std.specs.Prelude.{◌≡◌, ◌⊎◌, ℕ, List, None, Some, Contains}
use Rattle.fill_text.specs.Data.{TableData}
use Rattle.fill_edge.specs.Outside.{Files, Rose}
use Rattle.fill_open.specs.Apply.{Applied, IsReading, Reading, apply_opens}
use Rattle.fill_open.specs.Command.{CommandData, apply, keys, made, replay}
use Rattle.fill_open.specs.Keys.{keys_opens}
use Rattle.fill_opening.specs.Opened.{Held, Told, Opened, Opening, Passed, Refused, Unread}
use Rattle.fill_open.specs.Refusal.{RefusalData}
use Rattle.fill_open.specs.Steps.{made_opens, replay_opens}
use Rattle.fill_opening.specs.Stops.{Counts}
use Rattle.fill_open.specs.declared.session.Ready.{Ready}

-- what a command opens: a session, a saved program with a sheet, or the one table whose keys are listed
abbrev pub Asked : CommandData → Type 0
Asked (replay name) = Ready
Asked (made n) = Ready
Asked (apply names) = Applied
Asked (keys file) = List TableData

-- the steps of a command over the files: which it reads, in order, and what they end with
abbrev pub AreSteps : (command : CommandData) → Held → Opening RefusalData (Asked command) → Type 0
AreSteps (replay name) held steps = steps ≡ replay_opens held name
AreSteps (made n) held steps = steps ≡ made_opens n
AreSteps (apply names) held steps = (r : Reading) × IsReading names held r × (steps ≡ apply_opens r names held)
AreSteps (keys file) held steps = steps ≡ keys_opens file held

-- the files of a command, where they are told: a generated session has none
abbrev pub files_of : CommandData → Files → Files
files_of (replay name) files = files
files_of (made n) files = Some (λ name. None)
files_of (apply names) files = files
files_of (keys file) files = files

-- the steps of a command end with this
abbrev pub StepsEnd : (command : CommandData) → Held → Opened RefusalData (Asked command) → Type 0
StepsEnd command held how = (steps : Opening RefusalData (Asked command)) × AreSteps command held steps × (steps.outcome ≡ how)

-- all steps of a command pass, and open this
abbrev pub Opens : (command : CommandData) → Files → Asked command → Type 0
Opens command files x = Told (files_of command files) (λ held. StepsEnd command held (Passed x))

-- a file is refused, for this reason
abbrev pub IsRefused : CommandData → Files → RefusalData → Type 0
IsRefused command files why = Told (files_of command files) (λ held. StepsEnd command held (Refused why))

-- the steps of a command come to the file of this name
abbrev pub ComesTo : CommandData → Held → List ℕ → Type 0
ComesTo command held name = (steps : Opening RefusalData (Asked command)) → AreSteps command held steps → Contains steps.reads name

-- the file of the name is the next to read and is not there, or a read of it failed: its count rose
abbrev pub Misses : CommandData → Files → Counts → Counts → List ℕ → Type 0
Misses command None before now name = Rose (before name) (now name)
Misses command (Some held) before now name = StepsEnd command held (Unread name) ⊎ (ComesTo command held name × Rose (before name) (now name))
